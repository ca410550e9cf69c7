use Rattle.std.proofs.Common.{rules, ◌≡◌, ◌==◌, ◌∙◌, ap, false, sym, Err, Ok}
use Rattle.x86_insn.specs.Views.{view_of}
use Rattle.x86_table.specs.declared.mnemonics.integers.TheConstants.{XCHG}
use Rattle.x86_parts.specs.Codes.{named}
use Rattle.x86_encode.specs.Encoding.{encoding_of, answered, made_coding}
use Rattle.x86_encode.proofs.Coded.{coding_plain, none_made}
use Rattle.x86_encode.proofs.Encodings.{encoding_is, answered_so}
use Rattle.x86_encode.proofs.Search.{none_found, best_of}
use Rattle.x86_encode.proofs.Turning.{not_named}
use Rattle.x86_encode.proofs.encoding.encode.Goals as goal

pub encoded_of-requires : goal.encoded_of-requires
encoded_of-requires c = best_of (named c.name_meant-name.result (view_of c.args.insn.now c.args.values.now)) c.shortest.new.found c.in-Some.own c.in-Some.is c.shortest.ensures

pub returns-then-name-eq-XCHG : goal.returns-then-name-eq-XCHG
returns-then-name-eq-XCHG c =
    let v = c.encode_exchanged.ensures in
    let k = answered_so c.args.insn.now c.args.values.now (answered c.encode_exchanged.result) v in
    record { value = v; code = k.code; fields = k.fields; positions = k.positions; notes = k.notes; cause = k.cause }

pub returns-in-None : goal.returns-in-None
returns-in-None c =
    let h : (c.name_meant-name.result.0 == XCHG) ≡ false = search rules in
    let p = not_named c.name_meant-name.result (view_of c.args.insn.now c.args.values.now) h in
    let view = named c.name_meant-name.result (view_of c.args.insn.now c.args.values.now) in
    let n = coding_plain view p.0 p.1 ∙ none_made view (none_found view c.shortest.new.found c.in-None.is c.shortest.ensures) in
    let v : encoding_of (view_of c.args.insn.now) c.args.values.now ≡ Err c.fault_of.result =
    encoding_is (view_of c.args.insn.now) c.args.values.now c.name_meant-name.result _ c.name_meant-name.ensures n ∙ ap (λ e. Err e) (sym c.fault_of.ensures) in
    let k = answered_so c.args.insn.now c.args.values.now (Err c.fault_of.result) v in
    record { value = v; code = k.code; fields = k.fields; positions = k.positions; notes = k.notes; cause = k.cause }

pub returns-in-Some : goal.returns-in-Some
returns-in-Some c =
    let h : (c.name_meant-name.result.0 == XCHG) ≡ false = search rules in
    let p = not_named c.name_meant-name.result (view_of c.args.insn.now c.args.values.now) h in
    let view = named c.name_meant-name.result (view_of c.args.insn.now c.args.values.now) in
    let n = coding_plain view p.0 p.1 ∙ c.encoded_of.ensures in
    let v : encoding_of (view_of c.args.insn.now) c.args.values.now ≡ Ok (made_coding c.encoded_of.result) =
    encoding_is (view_of c.args.insn.now) c.args.values.now c.name_meant-name.result _ c.name_meant-name.ensures n in
    let k = answered_so c.args.insn.now c.args.values.now (Ok (made_coding c.encoded_of.result)) v in
    record { value = v; code = k.code; fields = k.fields; positions = k.positions; notes = k.notes; cause = k.cause }
