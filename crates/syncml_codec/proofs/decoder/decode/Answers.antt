use Rattle.std.proofs.Common.{arith}
use Rattle.syncml_codec.proofs.Feeding.{are_bytes, answer_exact, answer_message, answer_refusal}
use Rattle.syncml_codec.proofs.decoder.decode.Goals as goal

pub returns-clause-exact : goal.returns-clause-exact
returns-clause-exact c =
    answer_exact c.decoded.result c.args.bytes.now (are_bytes c.args.bytes.now (λ i. omega (arith, c.type_inv.bytes i)))
    c.decoded.ensures

pub returns-clause-message : goal.returns-clause-message
returns-clause-message c parts =
    answer_message c.decoded.result c.args.bytes.now parts
    (are_bytes c.args.bytes.now (λ i. omega (arith, c.type_inv.bytes i))) c.decoded.ensures

pub returns-clause-refusal : goal.returns-clause-refusal
returns-clause-refusal c refusal =
    answer_refusal c.decoded.result c.args.bytes.now refusal
    (are_bytes c.args.bytes.now (λ i. omega (arith, c.type_inv.bytes i))) c.decoded.ensures
