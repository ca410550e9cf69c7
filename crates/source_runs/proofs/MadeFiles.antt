-- What creating, writing and finishing a file make of it, told or not.
use Rattle.std.proofs.Common.{◌≡◌, ℕ, List, Option, None, Some, refl}
use Rattle.std.specs.Option.{option_map}
use Rattle.asm_base.specs.Output.{Made, after_create, after_write, after_finish}
use Rattle.source_runs.specs.Answers.{MakesFile}

-- a file that is created, written whole and finished
pub made_whole : (name bytes : List ℕ) (before created written finished : Option Made) →
    created ≡ option_map (after_create name) before →
    written ≡ option_map (after_write bytes) created →
    finished ≡ option_map after_finish written →
    MakesFile name bytes before finished
made_whole name bytes None created written finished c w f = rw (f, w, c) refl
made_whole name bytes (Some made) created written finished c w f = rw (f, w, c) refl
