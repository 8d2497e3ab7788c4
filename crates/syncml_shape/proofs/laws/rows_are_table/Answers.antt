use Rattle.std.proofs.Common.{refl}
use Rattle.syncml_shape.proofs.laws.rows_are_table.Goals as goal

pub returns : goal.returns
returns c = record {
  of_document = refl;
  of_message = refl;
  of_header = refl;
  of_body = refl;
  of_plain = refl;
  of_exec = refl;
  of_alert = refl;
  of_atomic = refl;
  of_sequence = refl;
  of_status = refl;
  of_results = refl;
  of_item = refl;
  of_loc = refl;
  of_cred = refl;
  of_chal = refl;
  of_meta = refl;
}
