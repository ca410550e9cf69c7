-- The definition computed on a few numbers.
use Rattle.std.specs.Prelude.{◌≡◌, length, codes, refl}
use Rattle.std.specs.Fmt.{digits}
use Rattle.load_text.specs.Load.{before_call, before_label, before_size, entry_text, function_text, load_text, numbered, rest_text}

-- one function, which calls itself
one : load_text 1
    ≡ codes ".text\n.type f0,@function\nf0: push %rbp\nmov %rsp,%rbp\npush %rbx\nmov %edi,%ebx\ntest %ebx,%ebx\nje 1f\ncall f0\n.rept 1\nmov $4096,%eax\n.endr\n1: pop %rbx\npop %rbp\nret\n.size f0,.-f0\n"
unfolding load_text function_text entry_text rest_text numbered before_label before_call before_size digits
one = refl

four : length (load_text 4) ≡ 680
unfolding load_text function_text entry_text rest_text numbered before_label before_call before_size digits
four = refl

more : length (load_text 27) ≡ 4644
unfolding load_text function_text entry_text rest_text numbered before_label before_call before_size digits
more = refl
