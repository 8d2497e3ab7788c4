-- The builder as what takes tokens that are told with their places.
use Rattle.std.specs.Prelude.{◌≡◌, ◌↔◌, List, ◌∷◌, ◌++◌, map, Ok, Err}
use Rattle.wbxml_tokens.specs.declared.reason.Refusal.{Refusal}
use Rattle.wbxml_tokens.specs.declared.token.Token.{Token}
use Rattle.wbxml_tokens.specs.declared.token.Placed.{Placed}
use Rattle.wbxml_tokens.specs.Taking.{Taking, taking, taken_all}
use Rattle.syncml_grammar.specs.Machine.{Frame}
use Rattle.syncml_grammar.specs.Building.{Building, no_building, building_after, token_refusal, HasTaken, HasBuilt}
use Rattle.syncml_grammar.specs.Refusals.{IsRefused}

abbrev pub building : Taking Building
building = taking (λ b _. b) building_after token_refusal

abbrev pub tokens : List Placed → List Token
tokens placed = map (λ p. p.token) placed

-- a token is refused behind those before it, for the reason and at the place that are told
abbrev pub HasRefused : List Placed → Refusal → Type 0
HasRefused placed f =
    (before : List Placed) × (p : Placed) × (rest : List Placed)
    × (placed ≡ before ++ p ∷ rest) × IsRefused (tokens before) p.token f.reason × (f.at ≡ p.at)

-- A builder takes all tokens exactly where the grammar does, and else tells the first refusal, at its token's place.
pub record BuiltIsTaken : Type 0 where
  pub built : (placed : List Placed) (b : Building) → taken_all building no_building placed ≡ Ok b
      → HasBuilt b (tokens placed)
  pub taken_whole : (placed : List Placed) (frames : List Frame) → HasTaken frames (tokens placed)
      → (b : Building) × (taken_all building no_building placed ≡ Ok b) × (b.frames ≡ frames)
  pub refused : (placed : List Placed) (f : Refusal) → (taken_all building no_building placed ≡ Err f) ↔ HasRefused placed f
