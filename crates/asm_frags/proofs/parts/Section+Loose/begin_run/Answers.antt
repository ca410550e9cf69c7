-- Fields and items stand where they stood, and the new run stands behind the bytes that were there.
use Rattle.std.proofs.Common.{◌≡◌, ◌+◌, ◌^◌, ◌≤◌, ◌++◌, [], ◌∷◌, length, rules}
use Rattle.asm_frags.specs.SoundItems.{AreBehind}
use Rattle.asm_frags.proofs.PlainLemmas.{bytes_put_last, behind_last}
use Rattle.asm_frags.proofs.parts.Section+Loose.begin_run.Goals as goal

pub invariant_of-self-2 : goal.invariant_of-self-2
invariant_of-self-2 c =
    let bytes = c.self.inside.bytes.items in
    let small : length bytes + length c.args.bytes.now ≤ 2 ^ 33 = search rules in
    let all : c.extend_from_slice.new.self.items ≡ bytes ++ c.args.bytes.now = search rules in
    let put : c.add.new.self ≡ c.self.inside.items ++ c.behind.result ∷ [] = search rules in
    let at : c.behind.result.offset ≡ length bytes = search rules in
    let behind : AreBehind (length bytes) c.add.new.self = behind_last (length bytes) c.self.inside.items c.add.new.self c.behind.result c.self.invariant.1 at put in
    bytes_put_last bytes c.args.bytes.now c.extend_from_slice.new.self.items c.self.inside.fields.items c.add.new.self c.self.invariant.0 behind small all
