use Rattle.scfi_laws.proofs.BytesRecovering.{rows_recover_in_bytes, exits_restore_in_bytes}
use Rattle.scfi_laws.proofs.bytes.bytes_recover.Goals as goal

-- src/bytes.rt:14:1
pub returns-clause-rows : goal.returns-clause-rows
returns-clause-rows c = rows_recover_in_bytes

-- src/bytes.rt:14:1
pub returns-clause-exits : goal.returns-clause-exits
returns-clause-exits c = exits_restore_in_bytes
