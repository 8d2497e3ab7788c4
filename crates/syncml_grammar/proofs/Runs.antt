-- What the open elements are behind tokens that come one after the other.
use Rattle.std.specs.Prelude.{◌≡◌, ℕ, ◌+◌, List, [], ◌∷◌, ◌++◌, None, Ok, Err, refl}
use Rattle.std.proofs.Common.{rules}
use Rattle.dm_base.specs.Limits.{text_limit}
use Rattle.wbxml_tokens.specs.declared.token.Token.{Token}
use Rattle.syncml_grammar.specs.Reads.{◌then◌}
use Rattle.syncml_grammar.specs.Machine.{Frame, root, step}
use Rattle.syncml_grammar.specs.Building.{Building, IsBuilding, frames_behind, HasTaken, bytes_of_text, text_length}

-- behind tokens, and then behind more
pub behind-append : (before later : List Token) (from : List Frame)
    → frames_behind from (before ++ later) ≡ (frames_behind from before then (λ frames. frames_behind frames later))
behind-append [] later from = refl
behind-append (token ∷ before) later from =
    elim (step from token) as (λ o. (o then (λ after. frames_behind after (before ++ later)))
    ≡ ((o then (λ after. frames_behind after before)) then (λ frames. frames_behind frames later))) [
      | Ok after ↦ behind-append before later after
      | Err reason ↦ refl
    ]

length-append : (before : List Token) (token : Token)
    → text_length (before ++ token ∷ []) ≡ text_length before + bytes_of_text token
length-append [] token = search rules
length-append (t ∷ before) token = let e = length-append before token in search rules

-- behind one token more
pub taken_more : (before : List Token) (token : Token) (frames after : List Frame) → HasTaken frames before
    → step frames token ≡ Ok after
    → HasTaken after (before ++ token ∷ [])
taken_more before token frames after h x =
    rw (behind-append before (token ∷ []) (root ∷ []), h, x) refl

-- a building that took one token more
pub building_more : (b : Building) (token : Token) (after : List Frame) (left : ℕ) → IsBuilding b → b.stopped ≡ None
    → step b.frames token ≡ Ok after
    → left + bytes_of_text token ≡ b.room → IsBuilding (record b { frames = after; room = left })
building_more b token after left is_building going x room = λ still.
    let was = is_building going in
    let e = length-append was.0 token in
    let whole : text_length was.0 + b.room ≡ text_limit = was.2 in
    (was.0 ++ token ∷ [], taken_more was.0 token b.frames after was.1 x, search rules)
