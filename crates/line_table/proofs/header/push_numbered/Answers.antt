-- What a file entry is, how many there are, and the files are put one behind the other.
use Rattle.std.proofs.Common.{◌≡◌, ℕ, List, [], ◌++◌, length, map, Option, ap, sym, ◌∙◌}
use Rattle.std.proofs.lemmas.List.{length-map}
use Rattle.leb128.specs.Digits.{uleb_bytes}
use Rattle.line_rows.specs.Header.{file_bytes}
use Rattle.line_rows.specs.Tables.{File, files_then}
use Rattle.line_directives.specs.declared.source_files.SourceFile.{SourceFile}
use Rattle.line_table.specs.Header.{entry_or, file_entries}
use Rattle.line_table.proofs.HeaderLemmas.{number_between}
use Rattle.line_table.proofs.ResultLemmas.{ok_then}
use Rattle.line_table.proofs.header.push_numbered.Goals as goal

pub returns : goal.returns
returns c =
    let files : List File = map (entry_or c.args.files.now c.args.least.now) c.args.files.now.by_number in
    let count : length c.by_number.result.now ≡ length files =
    ap (λ (all : List (Option SourceFile)). length all) c.by_number.ensures ∙ sym (length-map c.args.files.now.by_number (entry_or c.args.files.now c.args.least.now)) in
    ok_then c.push_files.result (c.push_files.new.bytes.items ++ [] ≡ c.push_number.new.bytes.items ++ files_then files [])
    (c.push_files.new.bytes.items ≡ c.args.bytes.now.items ++ file_entries files)
    (λ is. number_between c.args.bytes.now.items file_bytes c.extend_from_slice.new.self.items (uleb_bytes (length files)) c.push_number.new.bytes.items (files_then files []) c.push_files.new.bytes.items
    c.in_ok-extend_from_slice.ensures.items (c.in_ok-push_number.ensures ∙ ap (λ (n : ℕ). c.extend_from_slice.new.self.items ++ uleb_bytes n) count) is)
    (c.push_files.ensures [])
