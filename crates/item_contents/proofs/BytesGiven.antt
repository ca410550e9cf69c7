-- What hands out the bytes of each kind hands out those of the item.
use Rattle.std.proofs.Common.{◌≡◌, ℕ, List, [], replicate}
use Rattle.item_contents.specs.declared.contents.Content.{Content}
use Rattle.item_contents.specs.declared.contents.Content.TheVariants.{Run, Fill, Align, Org, Growing}
use Rattle.item_contents.specs.Contents.{fill_bytes, padding_bytes, grown_bytes, bytes_of}
use Rattle.item_contents.specs.Visits.{Visits}

pub bytes_given : {V S Out N : Type 0} (takes : S → List ℕ → Out → S → Type 0) (held : V → S) (name : V → N) (size value : V → ℕ)
    (content : Content) (first : V) (answer : Out) (last : V)
    → Visits (record {
      run = λ before a after. (name after ≡ name before) × takes (held before) [] a (held after);
      fill = λ before f a after. (name after ≡ name before) × takes (held before) (fill_bytes f) a (held after);
      align = λ before l a after. (name after ≡ name before) × takes (held before) (padding_bytes l.padding (size before)) a (held after);
      org = λ before o a after. (name after ≡ name before) × takes (held before) (replicate (size before) o.fill) a (held after);
      growing = λ before g a after. (name after ≡ name before) × takes (held before) (grown_bytes g.kind (size before) (value before)) a (held after);
    }) content first answer last
    → (name last ≡ name first) × takes (held first) (bytes_of content (size first) (value first)) answer (held last)
bytes_given takes held name size value Run first answer last given = given
bytes_given takes held name size value (Fill f) first answer last given = given
bytes_given takes held name size value (Align l) first answer last given = given
bytes_given takes held name size value (Org o) first answer last given = given
bytes_given takes held name size value (Growing g) first answer last given = given
