use Rattle.std.proofs.Common.{refl}
use Rattle.x86_table.proofs.spelling.push_prefixes.Goals as goal

pub returns-clause-bytes : goal.returns-clause-bytes
returns-clause-bytes c = rw (
  c.push_opt-4.ensures.bytes,
  c.push_opt-3.ensures.bytes,
  c.push_opt-2.ensures.bytes,
  c.push_opt.ensures.bytes,
  c.first_byte.ensures,
  c.size_byte.ensures,
  c.repeat_byte.ensures,
  c.lock_byte.ensures,
) refl
