-- Fields and items stand where they stood.
use Rattle.std.proofs.Common.{◌≡◌, ◌+◌, ◌^◌, ◌≤◌, ◌++◌, length, rules}
use Rattle.asm_frags.proofs.PlainLemmas.{bytes_put_last}
use Rattle.asm_frags.proofs.parts.Section+Loose.put_bytes.Goals as goal

pub invariant_of-self-2 : goal.invariant_of-self-2
invariant_of-self-2 c =
    let bytes = c.self.inside.bytes.items in
    let small : length bytes + length c.args.bytes.now ≤ 2 ^ 33 = search rules in
    let all : c.append.new.bytes.items ≡ bytes ++ c.args.bytes.now = search rules in
    bytes_put_last bytes c.args.bytes.now c.append.new.bytes.items c.self.inside.fields.items c.self.inside.items c.self.invariant.0 c.self.invariant.1 small all
