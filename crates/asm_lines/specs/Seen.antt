-- A statement of the program as the definitions have it.
use Rattle.asm_lines.specs.declared.statements.Statement.{Statement}
use Rattle.asm_lines.specs.Statements.{StatementAt}

-- the statement with its file, its line and its bytes
abbrev pub seen : Statement → StatementAt
seen statement =
    record { file = statement.pos.file; line = statement.pos.line; bytes = statement.bytes.now }
