use Rattle.x86_decode.proofs.Decoded.{all_is_decoded}
use Rattle.x86_decode.proofs.laws.all_is_decoded.Goals as goal

pub returns : goal.returns
returns c = all_is_decoded (record {
  leads = c.leads_in_order.ensures;
  narrow = c.fields_are_narrow.ensures;
  bytes = c.fields_have_bytes.ensures;
  tell = c.heads_tell_rows.ensures;
})
