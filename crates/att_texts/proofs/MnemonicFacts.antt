-- Each row of the table has a mnemonic, with registers and with memory.
use Rattle.std.proofs.Common.{◌≡◌, ℕ, zero, suc, Bool, true, List, [], ◌∷◌, refl, take, drop}
use Rattle.std.proofs.lemmas.Bool.{and_parts, and_from}
use Rattle.std.specs.List.{list_all}
use Rattle.x86_table.specs.declared.forms.Row.{Row}
use Rattle.x86_table.specs.Rows.{the_rows}
use Rattle.x86_lookup.specs.Names.{the_att_names}
use Rattle.x86_lookup.specs.Forms.{takes_all}
use Rattle.att_insns.specs.Sizes.{size_left}
use Rattle.att_texts.specs.AttTexts.{names_it, mnemonic_for}
use Rattle.att_texts.specs.Completeness.{has_mnemonic}

-- what holds of the first rows and of the others holds of all
all_parts : (n : ℕ) (rows : List Row) → list_all has_mnemonic (take n rows) ≡ true → list_all has_mnemonic (drop n rows) ≡ true → list_all has_mnemonic rows ≡ true
all_parts zero rows first rest = rest
all_parts (suc n) [] first rest = refl
all_parts (suc n) (r ∷ rows) first rest =
    let parts = and_parts (has_mnemonic r) (list_all has_mnemonic (take n rows)) first in
    and_from (has_mnemonic r) (list_all has_mnemonic rows) parts.0 (all_parts n rows parts.1 rest)

-- the rows from each fortieth on
abbrev rows_0 : List Row
rows_0 = the_rows

abbrev rows_40 : List Row
rows_40 = drop 40 rows_0

abbrev rows_80 : List Row
rows_80 = drop 40 rows_40

abbrev rows_120 : List Row
rows_120 = drop 40 rows_80

abbrev rows_160 : List Row
rows_160 = drop 40 rows_120

abbrev rows_200 : List Row
rows_200 = drop 40 rows_160

abbrev rows_240 : List Row
rows_240 = drop 40 rows_200

abbrev rows_280 : List Row
rows_280 = drop 40 rows_240

abbrev rows_320 : List Row
rows_320 = drop 40 rows_280

abbrev rows_360 : List Row
rows_360 = drop 40 rows_320

abbrev rows_400 : List Row
rows_400 = drop 40 rows_360

abbrev rows_440 : List Row
rows_440 = drop 40 rows_400

abbrev rows_480 : List Row
rows_480 = drop 40 rows_440

abbrev rows_520 : List Row
rows_520 = drop 40 rows_480

abbrev rows_560 : List Row
rows_560 = drop 40 rows_520

abbrev rows_600 : List Row
rows_600 = drop 40 rows_560

abbrev rows_640 : List Row
rows_640 = drop 40 rows_600

abbrev rows_680 : List Row
rows_680 = drop 40 rows_640

abbrev rows_720 : List Row
rows_720 = drop 40 rows_680

abbrev rows_760 : List Row
rows_760 = drop 40 rows_720

abbrev rows_800 : List Row
rows_800 = drop 40 rows_760

abbrev rows_840 : List Row
rows_840 = drop 40 rows_800

have_mnemonics_0 : list_all has_mnemonic (take 40 rows_0) ≡ true
unfolding the_rows the_att_names takes_all size_left names_it mnemonic_for
have_mnemonics_0 = refl

have_mnemonics_40 : list_all has_mnemonic (take 40 rows_40) ≡ true
unfolding the_rows the_att_names takes_all size_left names_it mnemonic_for
have_mnemonics_40 = refl

have_mnemonics_80 : list_all has_mnemonic (take 40 rows_80) ≡ true
unfolding the_rows the_att_names takes_all size_left names_it mnemonic_for
have_mnemonics_80 = refl

have_mnemonics_120 : list_all has_mnemonic (take 40 rows_120) ≡ true
unfolding the_rows the_att_names takes_all size_left names_it mnemonic_for
have_mnemonics_120 = refl

have_mnemonics_160 : list_all has_mnemonic (take 40 rows_160) ≡ true
unfolding the_rows the_att_names takes_all size_left names_it mnemonic_for
have_mnemonics_160 = refl

have_mnemonics_200 : list_all has_mnemonic (take 40 rows_200) ≡ true
unfolding the_rows the_att_names takes_all size_left names_it mnemonic_for
have_mnemonics_200 = refl

have_mnemonics_240 : list_all has_mnemonic (take 40 rows_240) ≡ true
unfolding the_rows the_att_names takes_all size_left names_it mnemonic_for
have_mnemonics_240 = refl

have_mnemonics_280 : list_all has_mnemonic (take 40 rows_280) ≡ true
unfolding the_rows the_att_names takes_all size_left names_it mnemonic_for
have_mnemonics_280 = refl

have_mnemonics_320 : list_all has_mnemonic (take 40 rows_320) ≡ true
unfolding the_rows the_att_names takes_all size_left names_it mnemonic_for
have_mnemonics_320 = refl

have_mnemonics_360 : list_all has_mnemonic (take 40 rows_360) ≡ true
unfolding the_rows the_att_names takes_all size_left names_it mnemonic_for
have_mnemonics_360 = refl

have_mnemonics_400 : list_all has_mnemonic (take 40 rows_400) ≡ true
unfolding the_rows the_att_names takes_all size_left names_it mnemonic_for
have_mnemonics_400 = refl

have_mnemonics_440 : list_all has_mnemonic (take 40 rows_440) ≡ true
unfolding the_rows the_att_names takes_all size_left names_it mnemonic_for
have_mnemonics_440 = refl

have_mnemonics_480 : list_all has_mnemonic (take 40 rows_480) ≡ true
unfolding the_rows the_att_names takes_all size_left names_it mnemonic_for
have_mnemonics_480 = refl

have_mnemonics_520 : list_all has_mnemonic (take 40 rows_520) ≡ true
unfolding the_rows the_att_names takes_all size_left names_it mnemonic_for
have_mnemonics_520 = refl

have_mnemonics_560 : list_all has_mnemonic (take 40 rows_560) ≡ true
unfolding the_rows the_att_names takes_all size_left names_it mnemonic_for
have_mnemonics_560 = refl

have_mnemonics_600 : list_all has_mnemonic (take 40 rows_600) ≡ true
unfolding the_rows the_att_names takes_all size_left names_it mnemonic_for
have_mnemonics_600 = refl

have_mnemonics_640 : list_all has_mnemonic (take 40 rows_640) ≡ true
unfolding the_rows the_att_names takes_all size_left names_it mnemonic_for
have_mnemonics_640 = refl

have_mnemonics_680 : list_all has_mnemonic (take 40 rows_680) ≡ true
unfolding the_rows the_att_names takes_all size_left names_it mnemonic_for
have_mnemonics_680 = refl

have_mnemonics_720 : list_all has_mnemonic (take 40 rows_720) ≡ true
unfolding the_rows the_att_names takes_all size_left names_it mnemonic_for
have_mnemonics_720 = refl

have_mnemonics_760 : list_all has_mnemonic (take 40 rows_760) ≡ true
unfolding the_rows the_att_names takes_all size_left names_it mnemonic_for
have_mnemonics_760 = refl

have_mnemonics_800 : list_all has_mnemonic (take 40 rows_800) ≡ true
unfolding the_rows the_att_names takes_all size_left names_it mnemonic_for
have_mnemonics_800 = refl

none_left : list_all has_mnemonic rows_840 ≡ true
unfolding the_rows
none_left = refl

pub all_have_mnemonics : list_all has_mnemonic the_rows ≡ true
all_have_mnemonics =
    let from_800 = all_parts 40 rows_800 have_mnemonics_800 none_left in
    let from_760 = all_parts 40 rows_760 have_mnemonics_760 from_800 in
    let from_720 = all_parts 40 rows_720 have_mnemonics_720 from_760 in
    let from_680 = all_parts 40 rows_680 have_mnemonics_680 from_720 in
    let from_640 = all_parts 40 rows_640 have_mnemonics_640 from_680 in
    let from_600 = all_parts 40 rows_600 have_mnemonics_600 from_640 in
    let from_560 = all_parts 40 rows_560 have_mnemonics_560 from_600 in
    let from_520 = all_parts 40 rows_520 have_mnemonics_520 from_560 in
    let from_480 = all_parts 40 rows_480 have_mnemonics_480 from_520 in
    let from_440 = all_parts 40 rows_440 have_mnemonics_440 from_480 in
    let from_400 = all_parts 40 rows_400 have_mnemonics_400 from_440 in
    let from_360 = all_parts 40 rows_360 have_mnemonics_360 from_400 in
    let from_320 = all_parts 40 rows_320 have_mnemonics_320 from_360 in
    let from_280 = all_parts 40 rows_280 have_mnemonics_280 from_320 in
    let from_240 = all_parts 40 rows_240 have_mnemonics_240 from_280 in
    let from_200 = all_parts 40 rows_200 have_mnemonics_200 from_240 in
    let from_160 = all_parts 40 rows_160 have_mnemonics_160 from_200 in
    let from_120 = all_parts 40 rows_120 have_mnemonics_120 from_160 in
    let from_80 = all_parts 40 rows_80 have_mnemonics_80 from_120 in
    let from_40 = all_parts 40 rows_40 have_mnemonics_40 from_80 in
    let from_0 = all_parts 40 rows_0 have_mnemonics_0 from_40 in
    from_0
