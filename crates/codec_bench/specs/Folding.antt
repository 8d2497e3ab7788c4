-- Tokens and bytes folded into two numbers.
use Rattle.std.specs.Prelude.{◌+◌, ◌*◌, ◌%◌, ◌^◌, ℕ, if◌then◌else◌, List, [], ◌∷◌, length, None, Result, Ok, Err, ⊤}
use Rattle.std.specs.Prelude.{◌≡◌}
use Rattle.wbxml_tables.specs.Tables.{code_on_page}
use Rattle.wbxml_tokens.specs.declared.token.Token.{Token}
use Rattle.wbxml_tokens.specs.declared.token.Token.TheVariants.{Tag, End, Text, Opaque}
use Rattle.wbxml_tokens.specs.Taking.{Taking, taking}
use Rattle.wbxml_tokens.specs.declared.reason.FeedError.{FeedError}
use Rattle.syncml_types.specs.Message.{Parts}
use Rattle.codec_bench.specs.declared.fold.Fold.{Fold}

-- the number that a token counts for
abbrev pub number_of : Token → ℕ
number_of (Tag element content) = code_on_page element + (if content then 64 else 0)
number_of End = 1
number_of (Text text) = length text
number_of (Opaque bytes) = length bytes

-- a fold after one more number; both of its numbers have 64 bits
abbrev pub with_number : Fold → ℕ → Fold
with_number f n = record { tokens = (f.tokens + 1) % 2 ^ 64; sum = (f.sum * 31 % 2 ^ 64 + n) % 2 ^ 64 }

-- and after these bytes
abbrev pub with_bytes : Fold → List ℕ → Fold
with_bytes f [] = f
with_bytes f (b ∷ bs) = with_bytes (with_number f b) bs

abbrev pub folded : Fold → Token → Fold
folded f token = with_number f (number_of token)

-- folding, which takes each token and no notice of places
abbrev pub folding : Taking Fold
folding = taking (λ f at. f) folded (λ f token. None)

-- where there is a message, the number of its commands is folded
abbrev pub FoldsMessage : Result Unit FeedError → Fold → Fold → Result Parts FeedError → Type 0
FoldsMessage (Ok u) old new (Ok parts) = new ≡ with_number old (length parts.body)
FoldsMessage (Ok u) old new (Err e) = ⊥
FoldsMessage (Err e) old new answer = ⊤
