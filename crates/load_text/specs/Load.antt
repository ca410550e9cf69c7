-- The source that the assembler makes by itself.
use Rattle.std.specs.Prelude.{ℕ, zero, suc, ◌+◌, ◌*◌, ◌%◌, List, [], ◌++◌, codes, decimal}

-- the piece, and behind it the number
unfoldable pub numbered : List ℕ → ℕ → List ℕ
numbered piece number = piece ++ decimal number

-- from the name of a function behind its `.type` to its label
unfoldable pub before_label : List ℕ
before_label = codes ",@function\nf"

-- from the label of a function to the name of the one that it calls: its frame is set up, and a branch goes round the call
unfoldable pub before_call : List ℕ
before_call = codes ": push %rbp\nmov %rsp,%rbp\npush %rbx\nmov %edi,%ebx\ntest %ebx,%ebx\nje 1f\ncall f"

-- from what is repeated behind the call to the function's size: its frame is left
unfoldable pub before_size : List ℕ
before_size = codes "\nmov $4096,%eax\n.endr\n1: pop %rbx\npop %rbp\nret\n.size f"

-- the lines of function i as far as its call of the next one
unfoldable pub entry_text : (i next : ℕ) → List ℕ
entry_text i next = numbered (codes ".type f") i ++ numbered before_label i ++ numbered before_call next

-- its lines behind the call, with so many instructions that the branch goes round too
unfoldable pub rest_text : (i count : ℕ) → List ℕ
rest_text i count = numbered (codes "\n.rept ") count ++ numbered before_size i ++ numbered (codes ",.-f") i ++ codes "\n"

-- the lines of function i of n: it calls the next one, the last the first, and its branch goes round 0 to 27 instructions
unfoldable pub function_text : (n i : ℕ) → List ℕ
function_text n i = entry_text i ((i + 1) % n) ++ rest_text i ((5 * i + n) % 28)

-- the lines of the first functions of n
abbrev pub first_functions : (n count : ℕ) → List ℕ
first_functions n zero = []
first_functions n (suc i) = first_functions n i ++ function_text n i

-- the source of n functions
unfoldable pub load_text : ℕ → List ℕ
load_text n = codes ".text\n" ++ first_functions n n
