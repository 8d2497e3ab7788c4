-- The canonical tokens of a fit message can be written, and what is written of them spells it.
use Rattle.std.specs.Prelude.{◌≡◌, ◌≤◌, false, List, [], ◌∷◌, ◌++◌, length, refl}
use Rattle.std.proofs.Common.{sym, ap, subst, ◌∙◌}
use Rattle.wbxml_tokens.specs.declared.token.Token.{Token}
use Rattle.wbxml_tokens.specs.declared.token.Token.TheVariants.{End}
use Rattle.wbxml_tokens.specs.declared.extent.Extent.{Extent}
use Rattle.wbxml_tokens.specs.declared.extent.Extent.TheVariants as extents
use Rattle.wbxml_tokens.specs.Reading.{most_bytes, extent_after, is_whole}
use Rattle.wbxml_tokens.specs.Spelling.{WrittenSoFar, written_after, given, prologue}
use Rattle.wbxml_tokens.specs.Whole.{extent_behind}
use Rattle.wbxml_tokens.specs.Written.{at_prologue, CanBeSpelled, AreInElement, IsWrittenOf}
use Rattle.wbxml_tokens.proofs.Elements.{element_is_whole}
use Rattle.wbxml_tokens.proofs.Written.{given_bytes, written_is_spelled}
use Rattle.syncml_types.specs.Message.{Parts}
use Rattle.syncml_types.specs.Canonical.{header_tokens, body_tokens, message_tokens, canonical}
use Rattle.syncml_types.specs.Fitness.{IsFit}
use Rattle.syncml_grammar.specs.Reads.{SpellsParts}
use Rattle.syncml_codec.specs.Ranges.{AreNumbers}
use Rattle.syncml_codec.specs.Messages.{Spells}
use Rattle.syncml_codec.specs.Laws.{CanonicalCanBeSpelled}
use Rattle.syncml_codec.proofs.CanonicalForests.{all_append}
use Rattle.syncml_codec.proofs.CanonicalMessages.{message_children, canonical_is_spelled}
use Rattle.syncml_codec.proofs.Documents.{element_of_parts}

pub canonical_can_be_spelled : CanonicalCanBeSpelled
unfolding message_tokens
canonical_can_be_spelled parts fit numbers = (
  tt,
  all_append CanBeSpelled (header_tokens parts.header ++ body_tokens parts.body parts.last) (End ∷ [])
      (message_children parts fit numbers).written (tt, tt),
)

-- ---- no token stands behind a whole element

cons_not_empty : (t : Token) (ts : List Token) → t ∷ ts ≡ [] → ⊥
cons_not_empty t ts e = cc

still_open : (extent : Extent) (t : Token) (ts : List Token) → (extent ≡ extents.Whole → t ∷ ts ≡ [])
    → is_whole extent ≡ false
still_open extents.Whole t ts ends = absurd (cons_not_empty t ts (ends refl))
still_open _ t ts ends = refl

in_element : (extent : Extent) (ts : List Token)
    → ((first later : List Token) → ts ≡ first ++ later → extent_behind extent first ≡ extents.Whole → later ≡ [])
    → AreInElement extent ts
in_element extent [] ends = tt
in_element extent (t ∷ ts) ends = (
  still_open extent t ts (ends [] (t ∷ ts) refl),
  in_element (extent_after extent t) ts (λ first later e whole. ends (t ∷ first) later (ap (λ l. t ∷ l) e) whole),
)

-- ---- messages

-- the canonical bytes of a fit message spell it, where they aren't too many
pub canonical_spells : (parts : Parts) → IsFit parts.header parts.body → AreNumbers parts
    → length (canonical parts) ≤ most_bytes → Spells (canonical parts) parts
unfolding canonical
canonical_spells parts fit numbers short =
    let ts : List Token = message_tokens parts in
    let w : WrittenSoFar = given written_after at_prologue ts in
    let message = canonical_is_spelled parts fit numbers in
    let inside = in_element extents.Before ts ((element_is_whole ts).0 (element_of_parts ts parts message)).1 in
    let s : IsWrittenOf ts w = written_is_spelled ts (canonical_can_be_spelled parts fit numbers) inside in
    record {
      table = [];
      prologue = prologue;
      body = s.body;
      placed = s.placed;
      page = w.page;
      extent = extent_behind extents.Before ts;
      whole = sym (ap (λ (v : WrittenSoFar). v.bytes) (given_bytes at_prologue ts)) ∙ s.whole;
      within = short;
      is_prologue = s.is_prologue;
      spells = s.spells;
      message = subst (λ l. SpellsParts l parts) (sym s.tokens) message;
    }
