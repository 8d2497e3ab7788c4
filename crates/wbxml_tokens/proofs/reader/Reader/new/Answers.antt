use Rattle.std.proofs.Common.{refl, ap, ◌∙◌, arith, length}
use Rattle.wbxml_tokens.specs.Reading.{first_reader}
use Rattle.wbxml_tokens.specs.Fronts.{prologue_at}
use Rattle.wbxml_tokens.proofs.Turns.{nothing}
use Rattle.wbxml_tokens.proofs.reader.Reader.new.Goals as goal

pub invariant_of-result : goal.invariant_of-result
invariant_of-result c = record {
  begun = ap prologue_at c.new.ensures ∙ nothing first_reader;
  deep = omega arith;
  within = omega (arith, ap length c.new.ensures);
  at_start = λ _. (c.new-2.ensures, refl);
  at_end = λ _. c.new.ensures;
}
