-- What a builder has of the tokens that it took.
use Rattle.std.specs.Prelude.{◌≡◌, ◌+◌, ◌-◌, ℕ, List, [], ◌∷◌, length, Option, Some, None, Result, Ok, Err}
use Rattle.dm_base.specs.Limits.{text_limit}
use Rattle.wbxml_tokens.specs.declared.reason.Reason.{Reason}
use Rattle.wbxml_tokens.specs.declared.token.Token.{Token}
use Rattle.wbxml_tokens.specs.declared.token.Token.TheVariants.{Tag, End, Text, Opaque}
use Rattle.syncml_types.specs.Message.{Parts}
use Rattle.wbxml_tokens.specs.declared.reason.Stop.{Stop}
use Rattle.wbxml_tokens.specs.declared.reason.Stop.TheVariants as stops
use Rattle.syncml_grammar.specs.Reads.{◌then◌}
use Rattle.syncml_grammar.specs.Machine.{Frame, root, step, finished_parts}

-- the open elements behind tokens, or why one of these is refused
abbrev pub frames_behind : List Frame → List Token → Result (List Frame) Reason
frames_behind frames [] = Ok frames
frames_behind frames (token ∷ tokens) = step frames token then (λ after. frames_behind after tokens)

-- these are the open elements behind the tokens, of which none was refused
abbrev pub HasTaken : List Frame → List Token → Type 0
HasTaken frames tokens = frames_behind (root ∷ []) tokens ≡ Ok frames

abbrev pub bytes_of_text : Token → ℕ
bytes_of_text (Tag e content) = 0
bytes_of_text End = 0
bytes_of_text (Text bytes) = length bytes
bytes_of_text (Opaque bytes) = length bytes

abbrev pub text_length : List Token → ℕ
text_length [] = 0
text_length (token ∷ tokens) = bytes_of_text token + text_length tokens

-- the open elements, how many bytes of text may still come, and why it takes no more tokens. All tokens together may
-- have far more text than those of a message
pub record Building : Type 0 where
  pub frames : List Frame
  pub room : ℕ
  pub stopped : Option Stop

abbrev pub no_building : Building
no_building = record { frames = root ∷ []; room = text_limit; stopped = None }

-- unless it has stopped, it has taken tokens
abbrev pub IsBuilding : Building → Type 0
IsBuilding b =
    b.stopped ≡ None → (tokens : List Token) × HasTaken b.frames tokens × (text_length tokens + b.room ≡ text_limit)

abbrev pub frames_or : List Frame → Result (List Frame) Reason → List Frame
frames_or frames (Ok after) = after
frames_or frames (Err reason) = frames

-- with one more token, where it is taken
abbrev pub building_after : Building → Token → Building
building_after b token = record b { frames = frames_or b.frames (step b.frames token); room = b.room - bytes_of_text token }

abbrev pub refused_by : Option Stop → Result (List Frame) Reason → Option Reason
refused_by None (Ok frames) = None
refused_by None (Err reason) = Some reason
refused_by (Some (stops.Refused reason)) x = Some reason
refused_by (Some stops.Memory) x = None

-- why it refuses a token
abbrev pub token_refusal : Building → Token → Option Reason
token_refusal b token = refused_by b.stopped (step b.frames token)

abbrev pub reason_told : Stop → Option Reason
reason_told stops.Memory = None
reason_told (stops.Refused reason) = Some reason

-- after want of memory it takes no more
abbrev pub IsLacking : Building → Building → Type 0
IsLacking old new = new.stopped ≡ Some stops.Memory

-- why it takes no more tokens: it has answered this
abbrev pub HasStopped : Building → Stop → Type 0
HasStopped b stop = b.stopped ≡ Some stop

-- it has taken these tokens, and none of them was refused
abbrev pub HasBuilt : Building → List Token → Type 0
HasBuilt b tokens = (b.stopped ≡ None) × HasTaken b.frames tokens

abbrev pub unless_stopped : Option Stop → Option Parts → Option Parts
unless_stopped None parts = parts
unless_stopped (Some stop) parts = None

-- the parts of the message, where the document is whole
abbrev pub built_by : Building → Option Parts
built_by b = unless_stopped b.stopped (finished_parts b.frames)
