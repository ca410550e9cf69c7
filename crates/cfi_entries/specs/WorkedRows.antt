-- Rows of a frame table by its bytes, worked out by hand (DWARF 5, section 6.4.3 and appendix D.6).
use Rattle.std.specs.Prelude.{◌≡◌, ℕ, ◌-◌, ◌^◌, pos, neg_ℤ, List, [], ◌∷◌, ◌++◌, Option, None, Some, replicate, slice_set, take}
use Rattle.cfi_rows.specs.declared.rows.CfaRow.{CfaRow}
use Rattle.cfi_rows.specs.declared.rows.CfiOp.TheVariants.{DefCfa, DefCfaRegister, DefCfaOffset, Set, Restore}
use Rattle.cfi_rows.specs.declared.rows.Rule.TheVariants.{Unspecified, Undefined, SameValue, Offset, ValueOffset, Register}
use Rattle.cfi_rows.specs.Rows.{common_row, with_cfa, with_rule}
use Rattle.cfi_rows.specs.declared.pointers.PointerEncoding.TheVariants.{Absolute8, Relative4, Indirect4, Indirect8}
use Rattle.cfi_rows.specs.Commons.{common_bytes, common_entry, plain_form}
use Rattle.cfi_entries.specs.Entries.{row_of}
use Rattle.cfi_entries.specs.Lines.{entry_bytes}
use Rattle.cfi_entries.specs.Written.{written}
use Rattle.cfi_rows.specs.Differences.{differences}

-- the row at a place of an entry with this range and these instructions is this one
abbrev pub Stands : ℕ → List ℕ → ℕ → Option CfaRow → Type 0
Stands range code at row = row_of common_bytes (entry_bytes 28 0 range [] code) at ≡ row

-- push %rbp; mov %rsp,%rbp; pop %rbp; ret
abbrev pub framed : List ℕ
framed = 0x41 ∷ 0x0e ∷ 0x10 ∷ 0x86 ∷ 0x02 ∷ 0x43 ∷ 0x0d ∷ 0x06 ∷ 0x41 ∷ 0x0c ∷ 0x07 ∷ 0x08 ∷ 0xc6 ∷ []

-- rsp + 16, and rbp at -16
abbrev pub pushed : CfaRow
pushed = with_rule (with_cfa common_row 7 (pos 16)) 6 (Offset (neg_ℤ (pos 16)))

-- of a procedure with a frame pointer
pub record FrameRows : Type 0 where
  pub entry : Stands 6 framed 0 (Some common_row)
  pub pushed_now : Stands 6 framed 1 (Some pushed)
  pub pushed_still : Stands 6 framed 3 (Some pushed)
  pub framed_now : Stands 6 framed 4 (Some (with_cfa pushed 6 (pos 16)))
  pub popped : Stands 6 framed 5 (Some common_row)
  pub end : Stands 6 framed 6 None

-- remember_state; def_cfa_offset 24; undefined rbx; advance 1; restore_state
abbrev pub remembered : List ℕ
remembered = 0x0a ∷ 0x0e ∷ 0x18 ∷ 0x07 ∷ 0x03 ∷ 0x41 ∷ 0x0b ∷ []

-- a number in nine bytes: the first one, seven that hold zeros, and the last one
abbrev pub digits : ℕ → ℕ → List ℕ
digits first last = first ∷ (replicate 7 0x80 ++ last ∷ [])

-- an entry with these instructions has no row at its start
abbrev pub Refused : List ℕ → Type 0
Refused code = Stands 6 code 0 None

-- the common entry of a personality whose pointer has 4 bytes, from its own place, and is indirect
abbrev pub of_personality : List ℕ
of_personality =
    0x18 ∷ 0x00 ∷ 0x00 ∷ 0x00 ∷ 0x00 ∷ 0x00 ∷ 0x00 ∷ 0x00 ∷ 0x01 ∷ 0x7a ∷ 0x50 ∷ 0x52 ∷ 0x00 ∷ 0x01 ∷ 0x78 ∷ 0x10 ∷ 0x06
    ∷ 0x9b ∷ 0x00 ∷ 0x00 ∷ 0x00 ∷ 0x00 ∷ 0x1b ∷ 0x0c ∷ 0x07 ∷ 0x08 ∷ 0x90 ∷ 0x01 ∷ []

-- the same, and pointers to LSDAs have 4 bytes, from their own place
abbrev pub of_both : List ℕ
of_both =
    0x1c ∷ 0x00 ∷ 0x00 ∷ 0x00 ∷ 0x00 ∷ 0x00 ∷ 0x00 ∷ 0x00 ∷ 0x01 ∷ 0x7a ∷ 0x50 ∷ 0x4c ∷ 0x52 ∷ 0x00 ∷ 0x01 ∷ 0x78 ∷ 0x10 ∷ 0x07
    ∷ 0x9b ∷ 0x00 ∷ 0x00 ∷ 0x00 ∷ 0x00 ∷ 0x1b ∷ 0x1b ∷ 0x0c ∷ 0x07 ∷ 0x08 ∷ 0x90 ∷ 0x01 ∷ 0x00 ∷ 0x00 ∷ []

-- pointers of 8 bytes
abbrev pub of_wide : List ℕ
of_wide =
    0x20 ∷ 0x00 ∷ 0x00 ∷ 0x00 ∷ 0x00 ∷ 0x00 ∷ 0x00 ∷ 0x00 ∷ 0x01 ∷ 0x7a ∷ 0x50 ∷ 0x4c ∷ 0x52 ∷ 0x00 ∷ 0x01 ∷ 0x78 ∷ 0x10 ∷ 0x0b
    ∷ 0x00 ∷ 0x00 ∷ 0x00 ∷ 0x00 ∷ 0x00 ∷ 0x00 ∷ 0x00 ∷ 0x00 ∷ 0x00 ∷ 0x00 ∷ 0x1b ∷ 0x0c ∷ 0x07 ∷ 0x08 ∷ 0x90 ∷ 0x01 ∷ 0x00 ∷ 0x00 ∷ []

-- a CIE that says no personality, and that pointers to LSDAs have 4 bytes, from their own place
abbrev pub of_lsda : List ℕ
of_lsda =
    0x14 ∷ 0x00 ∷ 0x00 ∷ 0x00 ∷ 0x00 ∷ 0x00 ∷ 0x00 ∷ 0x00 ∷ 0x01 ∷ 0x7a ∷ 0x4c ∷ 0x52 ∷ 0x00 ∷ 0x01 ∷ 0x78 ∷ 0x10 ∷ 0x02 ∷ 0x1b ∷ 0x1b
    ∷ 0x0c ∷ 0x07 ∷ 0x08 ∷ 0x90 ∷ 0x01 ∷ []

-- the CIE of a personality whose pointer has 8 bytes, from its own place, and is indirect; pointers to LSDAs have 4
abbrev pub of_two_sizes : List ℕ
of_two_sizes =
    0x20 ∷ 0x00 ∷ 0x00 ∷ 0x00 ∷ 0x00 ∷ 0x00 ∷ 0x00 ∷ 0x00 ∷ 0x01 ∷ 0x7a ∷ 0x50 ∷ 0x4c ∷ 0x52 ∷ 0x00 ∷ 0x01 ∷ 0x78 ∷ 0x10 ∷ 0x0b
    ∷ 0x9c ∷ 0x00 ∷ 0x00 ∷ 0x00 ∷ 0x00 ∷ 0x00 ∷ 0x00 ∷ 0x00 ∷ 0x00 ∷ 0x1b ∷ 0x1b ∷ 0x0c ∷ 0x07 ∷ 0x08 ∷ 0x90 ∷ 0x01 ∷ 0x00 ∷ 0x00 ∷ []

-- the same as `of_both` with L before P, in the string and in the data: no CIE that is taken
abbrev pub of_other_order : List ℕ
of_other_order =
    0x1c ∷ 0x00 ∷ 0x00 ∷ 0x00 ∷ 0x00 ∷ 0x00 ∷ 0x00 ∷ 0x00 ∷ 0x01 ∷ 0x7a ∷ 0x4c ∷ 0x50 ∷ 0x52 ∷ 0x00 ∷ 0x01 ∷ 0x78 ∷ 0x10 ∷ 0x07
    ∷ 0x1b ∷ 0x9b ∷ 0x00 ∷ 0x00 ∷ 0x00 ∷ 0x00 ∷ 0x1b ∷ 0x0c ∷ 0x07 ∷ 0x08 ∷ 0x90 ∷ 0x01 ∷ 0x00 ∷ 0x00 ∷ []

-- the same as `common_bytes` with two bytes more of data in place of the nops: no CIE that is taken
abbrev pub of_more_data : List ℕ
of_more_data =
    0x14 ∷ 0x00 ∷ 0x00 ∷ 0x00 ∷ 0x00 ∷ 0x00 ∷ 0x00 ∷ 0x00 ∷ 0x01 ∷ 0x7a ∷ 0x52 ∷ 0x00 ∷ 0x01 ∷ 0x78 ∷ 0x10 ∷ 0x03 ∷ 0x1b ∷ 0x00 ∷ 0x00
    ∷ 0x0c ∷ 0x07 ∷ 0x08 ∷ 0x90 ∷ 0x01 ∷ []

-- the row one byte from the start of an FDE with this distance back to its CIE and this pointer to its LSDA
abbrev pub Passes : List ℕ → ℕ → List ℕ → Option CfaRow → Type 0
Passes cie back lsda row = row_of cie (entry_bytes back 0 6 lsda framed) 1 ≡ row

-- of other entries: the row is remembered whole, an advance by 0, ones of 2, 3 and 5 bytes, padding, and what no entry is
pub record OtherRows : Type 0 where
  pub changed_now : Stands 6 remembered 0 (Some (with_rule (with_cfa common_row 7 (pos 24)) 3 Undefined))
  pub restored : Stands 6 remembered 1 (Some common_row)
  pub no_advance : Stands 6 (0x40 ∷ 0x0e ∷ 0x10 ∷ []) 0 (Some (with_cfa common_row 7 (pos 16)))
  pub before_one : Stands 6 (0x02 ∷ 0x01 ∷ 0x0e ∷ 0x10 ∷ []) 0 (Some common_row)
  pub behind_one : Stands 6 (0x02 ∷ 0x01 ∷ 0x0e ∷ 0x10 ∷ []) 1 (Some (with_cfa common_row 7 (pos 16)))
  pub before_two : Stands 600 (0x03 ∷ 0x00 ∷ 0x02 ∷ 0x0e ∷ 0x10 ∷ []) 511 (Some common_row)
  pub behind_two : Stands 600 (0x03 ∷ 0x00 ∷ 0x02 ∷ 0x0e ∷ 0x10 ∷ []) 512 (Some (with_cfa common_row 7 (pos 16)))
  pub behind_four : Stands 600 (0x04 ∷ 0x01 ∷ 0x00 ∷ 0x00 ∷ 0x00 ∷ 0x0e ∷ 0x10 ∷ 0x00 ∷ []) 1 (Some (with_cfa common_row 7 (pos 16)))
  pub before_third : Stands 0x10004 (0x04 ∷ 0x00 ∷ 0x00 ∷ 0x01 ∷ 0x00 ∷ 0x0e ∷ 0x10 ∷ []) 0xffff (Some common_row)
  pub behind_third : Stands 0x10004 (0x04 ∷ 0x00 ∷ 0x00 ∷ 0x01 ∷ 0x00 ∷ 0x0e ∷ 0x10 ∷ []) 0x10000 (Some (with_cfa common_row 7 (pos 16)))
  pub before_fourth : Stands 0x1000004 (0x04 ∷ 0x00 ∷ 0x00 ∷ 0x00 ∷ 0x01 ∷ 0x0e ∷ 0x10 ∷ []) 0xffffff (Some common_row)
  pub behind_fourth : Stands 0x1000004 (0x04 ∷ 0x00 ∷ 0x00 ∷ 0x00 ∷ 0x01 ∷ 0x0e ∷ 0x10 ∷ []) 0x1000000 (Some (with_cfa common_row 7 (pos 16)))
  pub long_number : Stands 6 (0x0e ∷ 0x90 ∷ 0x80 ∷ 0x00 ∷ []) 0 (Some (with_cfa common_row 7 (pos 16)))
  pub below_cfa : Stands 6 (0x13 ∷ 0x02 ∷ []) 0 (Some (with_cfa common_row 7 (neg_ℤ (pos 16))))
  pub above_cfa : Stands 6 (0x11 ∷ 0x03 ∷ 0x7f ∷ []) 0 (Some (with_rule common_row 3 (Offset (pos 8))))
  pub far_below : Stands 6 (0x11 ∷ 0x03 ∷ digits 0x80 0x10) 0 (Some (with_rule common_row 3 (Offset (neg_ℤ (pos (2 ^ 63))))))
  pub too_far_below : Refused (0x11 ∷ 0x03 ∷ digits 0x81 0x10)
  pub far_above : Stands 6 (0x11 ∷ 0x03 ∷ digits 0x81 0x70) 0 (Some (with_rule common_row 3 (Offset (pos (2 ^ 63 - 8)))))
  pub too_far_above : Refused (0x11 ∷ 0x03 ∷ digits 0x80 0x70)
  pub long_register : Stands 6 (0x07 ∷ 0x83 ∷ 0x00 ∷ []) 0 (Some (with_rule common_row 3 Undefined))
  pub long_register_64 : Refused (0x07 ∷ 0xc0 ∷ 0x00 ∷ [])
  pub in_register_64 : Refused (0x09 ∷ 0x03 ∷ 0x40 ∷ [])
  pub cut_short : Refused (0x0e ∷ [])
  pub unended : Refused (0x0e ∷ 0x90 ∷ [])
  pub past_the_end : Stands 6 (0x46 ∷ 0x0e ∷ []) 0 None
  pub unrestored_past : Refused (0x41 ∷ 0x0b ∷ [])
  pub register_64_past : Refused (0x41 ∷ 0x07 ∷ 0x40 ∷ [])
  pub cfa_expression : Refused (0x0f ∷ 0x01 ∷ 0x50 ∷ [])
  pub expression : Refused (0x10 ∷ 0x03 ∷ 0x01 ∷ 0x50 ∷ [])
  pub value_expression : Refused (0x16 ∷ 0x06 ∷ 0x01 ∷ 0x50 ∷ [])
  pub arguments_size : Refused (0x2e ∷ 0x10 ∷ [])
  pub set_loc : Refused (0x01 ∷ 0x00 ∷ 0x00 ∷ 0x00 ∷ 0x00 ∷ [])
  pub register_64 : Refused (0x07 ∷ 0x40 ∷ [])
  pub nothing_remembered : Refused (0x0b ∷ [])
  pub many_remembered : Refused (replicate 17 0x0a)
  pub few_remembered : Stands 6 (replicate 16 0x0a) 0 (Some common_row)
  pub remembered_again : Stands 6 (replicate 16 0x0a ++ 0x0b ∷ 0x0a ∷ []) 0 (Some common_row)
  pub wide_offset : Refused (0x0e ∷ 0x80 ∷ 0x80 ∷ 0x80 ∷ 0x80 ∷ 0x80 ∷ 0x80 ∷ 0x80 ∷ 0x80 ∷ 0x80 ∷ 0x01 ∷ [])
  pub short_length : row_of common_bytes (13 ∷ 0 ∷ 0 ∷ 0 ∷ 28 ∷ 0 ∷ 0 ∷ 0 ∷ 0 ∷ 0 ∷ 0 ∷ 0 ∷ 6 ∷ 0 ∷ 0 ∷ 0 ∷ 0 ∷ 0x0a ∷ []) 0 ≡ None
  pub long_form : row_of common_bytes (0xff ∷ 0xff ∷ 0xff ∷ 0xff ∷ 28 ∷ 0 ∷ 0 ∷ 0 ∷ 0 ∷ 0 ∷ 0 ∷ 0 ∷ 6 ∷ 0 ∷ 0 ∷ 0 ∷ 0 ∷ []) 0 ≡ None
  pub augmented : row_of common_bytes (14 ∷ 0 ∷ 0 ∷ 0 ∷ 28 ∷ 0 ∷ 0 ∷ 0 ∷ 0 ∷ 0 ∷ 0 ∷ 0 ∷ 6 ∷ 0 ∷ 0 ∷ 0 ∷ 1 ∷ 0 ∷ []) 0 ≡ None
  pub other_common : row_of (slice_set common_bytes 13 0x7c) (entry_bytes 28 0 6 [] framed) 0 ≡ None
  pub no_entry : row_of common_bytes (13 ∷ 0 ∷ 0 ∷ 0 ∷ 0 ∷ 0 ∷ 0 ∷ 0 ∷ 0 ∷ 0 ∷ 0 ∷ 0 ∷ 6 ∷ 0 ∷ 0 ∷ 0 ∷ 0 ∷ []) 0 ≡ None

-- of CIEs with the pointer to a personality or the encoding of pointers to LSDAs: the pointers are passed over, whatever they are, and the data of an FDE has
-- just the size that its CIE says; and what is no CIE: another encoding, another order, another length of the data, more data,
-- no nops where there have to be two
pub record PointerRows : Type 0 where
  pub personality_passed : Passes of_personality 32 [] (Some pushed)
  pub lsda_passed : Passes of_lsda 28 (1 ∷ 2 ∷ 3 ∷ 4 ∷ []) (Some pushed)
  pub both_passed : Passes of_both 36 (1 ∷ 2 ∷ 3 ∷ 4 ∷ []) (Some pushed)
  pub wide_passed : Passes of_wide 40 (replicate 8 0) (Some pushed)
  pub two_sizes_passed : Passes of_two_sizes 40 (1 ∷ 2 ∷ 3 ∷ 4 ∷ []) (Some pushed)
  pub any_personality : Passes (slice_set of_two_sizes 26 0xff) 40 (1 ∷ 2 ∷ 3 ∷ 4 ∷ []) (Some pushed)
  pub lsda_missing : Passes of_both 36 [] None
  pub lsda_alone_missing : Passes of_lsda 28 [] None
  pub lsda_unsaid : Passes of_personality 32 (1 ∷ 2 ∷ 3 ∷ 4 ∷ []) None
  pub lsda_too_long : Passes of_lsda 28 (replicate 8 0) None
  pub lsda_too_short : Passes of_wide 40 (1 ∷ 2 ∷ 3 ∷ 4 ∷ []) None
  pub lsda_as_personality : Passes of_two_sizes 40 (replicate 8 0) None
  pub other_pointer : Passes (slice_set of_both 18 0x10) 36 (1 ∷ 2 ∷ 3 ∷ 4 ∷ []) None
  pub other_letters : Passes (slice_set (slice_set of_both 10 0x4c) 11 0x50) 36 (1 ∷ 2 ∷ 3 ∷ 4 ∷ []) None
  pub other_order : Passes of_other_order 36 (1 ∷ 2 ∷ 3 ∷ 4 ∷ []) None
  pub other_data : Passes (slice_set of_both 17 0x08) 36 (1 ∷ 2 ∷ 3 ∷ 4 ∷ []) None
  pub more_data : Passes of_more_data 28 [] None
  pub no_nops : Passes (slice_set (take 30 of_both) 0 0x1a) 36 (1 ∷ 2 ∷ 3 ∷ 4 ∷ []) None
  pub needless_nops : Passes (slice_set of_lsda 0 0x16 ++ 0 ∷ 0 ∷ []) 28 (1 ∷ 2 ∷ 3 ∷ 4 ∷ []) None

-- the bytes of instructions
pub record WrittenBytes : Type 0 where
  pub cfa : written (DefCfa 7 (pos 8)) ≡ Some (0x0c ∷ 0x07 ∷ 0x08 ∷ [])
  pub cfa_below : written (DefCfa 7 (neg_ℤ (pos 16))) ≡ Some (0x12 ∷ 0x07 ∷ 0x02 ∷ [])
  pub cfa_of_no_register : written (DefCfa 64 (pos 8)) ≡ None
  pub cfa_unfactored : written (DefCfa 7 (neg_ℤ (pos 12))) ≡ None
  pub cfa_register : written (DefCfaRegister 6) ≡ Some (0x0d ∷ 0x06 ∷ [])
  pub cfa_offset : written (DefCfaOffset (pos 12)) ≡ Some (0x0e ∷ 0x0c ∷ [])
  pub cfa_112 : written (DefCfaOffset (pos 112)) ≡ Some (0x0e ∷ 0x70 ∷ [])
  pub cfa_127 : written (DefCfaOffset (pos 127)) ≡ Some (0x0e ∷ 0x7f ∷ [])
  pub cfa_128 : written (DefCfaOffset (pos 128)) ≡ Some (0x0e ∷ 0x80 ∷ 0x01 ∷ [])
  pub cfa_far : written (DefCfaOffset (pos 300)) ≡ Some (0x0e ∷ 0xac ∷ 0x02 ∷ [])
  pub cfa_offset_below : written (DefCfaOffset (neg_ℤ (pos 8))) ≡ Some (0x13 ∷ 0x01 ∷ [])
  pub cfa_504_below : written (DefCfaOffset (neg_ℤ (pos 504))) ≡ Some (0x13 ∷ 0x3f ∷ [])
  pub cfa_512_below : written (DefCfaOffset (neg_ℤ (pos 512))) ≡ Some (0x13 ∷ 0xc0 ∷ 0x00 ∷ [])
  pub slot : written (Set 3 (Offset (neg_ℤ (pos 24)))) ≡ Some (0x83 ∷ 0x03 ∷ [])
  pub no_slot : written (Set 3 (Offset (neg_ℤ (pos 20)))) ≡ None
  pub slot_here : written (Set 3 (Offset (pos 0))) ≡ Some (0x83 ∷ 0x00 ∷ [])
  pub slot_above : written (Set 3 (Offset (pos 8))) ≡ Some (0x11 ∷ 0x03 ∷ 0x7f ∷ [])
  pub slot_512_above : written (Set 3 (Offset (pos 512))) ≡ Some (0x11 ∷ 0x03 ∷ 0x40 ∷ [])
  pub slot_far_above : written (Set 3 (Offset (pos 520))) ≡ Some (0x11 ∷ 0x03 ∷ 0xbf ∷ 0x7f ∷ [])
  pub value : written (Set 6 (ValueOffset (neg_ℤ (pos 16)))) ≡ Some (0x14 ∷ 0x06 ∷ 0x02 ∷ [])
  pub value_above : written (Set 6 (ValueOffset (pos 16))) ≡ Some (0x15 ∷ 0x06 ∷ 0x7e ∷ [])
  pub undefined : written (Set 6 Undefined) ≡ Some (0x07 ∷ 0x06 ∷ [])
  pub same_value : written (Set 6 SameValue) ≡ Some (0x08 ∷ 0x06 ∷ [])
  pub register : written (Set 6 (Register 3)) ≡ Some (0x09 ∷ 0x06 ∷ 0x03 ∷ [])
  pub unspecified : written (Set 6 Unspecified) ≡ None
  pub restored : written (Restore 6) ≡ Some (0xc6 ∷ [])

-- CIEs have the bytes of their forms
pub record WorkedCommons : Type 0 where
  pub plain : common_entry plain_form [] ≡ common_bytes
  pub lsda : common_entry (record { personality = None; lsda = Some Relative4 }) [] ≡ of_lsda
  pub two_sizes : common_entry (record { personality = Some Indirect8; lsda = Some Relative4 }) (replicate 8 0) ≡ of_two_sizes
  pub personality : common_entry (record { personality = Some Indirect4; lsda = None }) (replicate 4 0) ≡ of_personality
  pub both : common_entry (record { personality = Some Indirect4; lsda = Some Relative4 }) (replicate 4 0) ≡ of_both
  pub wide : common_entry (record { personality = Some Absolute8; lsda = Some Absolute8 }) (replicate 8 0) ≡ of_wide

-- what leads from row to row in a procedure with a frame pointer
pub record WorkedDifferences : Type 0 where
  pub push : differences common_row pushed ≡ DefCfaOffset (pos 16) ∷ Set 6 (Offset (neg_ℤ (pos 16))) ∷ []
  pub move : differences pushed (with_cfa pushed 6 (pos 16)) ≡ DefCfaRegister 6 ∷ []
  pub pop : differences (with_cfa pushed 6 (pos 16)) common_row ≡ DefCfa 7 (pos 8) ∷ Restore 6 ∷ []
  pub stay : differences pushed pushed ≡ []
