-- The listing of a message.
use Rattle.std.specs.Prelude.{◌&&◌, ◌==◌, ◌-◌, ℕ, zero, suc, Bool, false, not, if◌then◌else◌, nat_le, List, [], ◌∷◌}
use Rattle.std.specs.Prelude.{◌++◌, length, take}
use Rattle.std.specs.List.{list_all}
use Rattle.dm_base.specs.Fields.{hex_text}
use Rattle.dm_base.specs.Lines.{line_feed}
use Rattle.wbxml_tables.specs.Tables.{name_in_text}
use Rattle.wbxml_tokens.specs.declared.token.Token.{Token}
use Rattle.wbxml_tokens.specs.declared.token.Token.TheVariants.{Tag, End, Text, Opaque}
use Rattle.syncml_types.specs.Message.{Parts}
use Rattle.syncml_types.specs.Canonical.{message_tokens}

-- 20 to 7E
abbrev pub is_printable : ℕ → Bool
is_printable b = nat_le 32 b && nat_le b 126

abbrev pub begins_with_sign : List ℕ → Bool
begins_with_sign [] = false
begins_with_sign (b ∷ bs) = b == 35

-- a value that is shown as it is
abbrev pub is_plain_text : List ℕ → Bool
is_plain_text bytes = list_all is_printable bytes && not (begins_with_sign bytes)

unfoldable pub value_text : List ℕ → List ℕ
value_text bytes = if is_plain_text bytes then bytes else 35 ∷ hex_text bytes

-- two spaces a depth
abbrev pub spaces : ℕ → List ℕ
spaces zero = []
spaces (suc n) = 32 ∷ 32 ∷ spaces n

abbrev pub depth_above : ℕ → ℕ
depth_above zero = zero
depth_above (suc n) = n

abbrev pub feed_where : Bool → List ℕ
feed_where c = if c then line_feed else []

-- the lines of tokens at a depth, where the line of an element may still be open
abbrev pub token_lines : ℕ → Bool → List Token → List ℕ
token_lines depth is_open [] = []
token_lines depth is_open (Tag e content ∷ ts) =
    feed_where is_open ++ spaces depth ++ name_in_text e ++ feed_where (not content)
    ++ token_lines (if content then suc depth else depth) content ts
token_lines depth is_open (End ∷ ts) = feed_where is_open ++ token_lines (depth_above depth) false ts
token_lines depth is_open (Text text ∷ ts) = 32 ∷ value_text text ++ token_lines depth is_open ts
token_lines depth is_open (Opaque bytes ∷ ts) = 32 ∷ value_text bytes ++ token_lines depth is_open ts

-- the listing of a message
abbrev pub listing_of : Parts → List ℕ
listing_of m = token_lines 0 false (message_tokens m)

-- ---- how it is written

-- the text so far, the spaces of the depth, and whether a line is open
pub record Listed : Type 0 where
  pub text : List ℕ
  pub indent : List ℕ
  pub is_open : Bool

abbrev pub nothing_listed : Listed
nothing_listed = record { text = []; indent = []; is_open = false }

abbrev pub listed_after : Listed → Token → Listed
listed_after l (Tag e content) = record {
  text = l.text ++ feed_where l.is_open ++ l.indent ++ name_in_text e ++ feed_where (not content);
  indent = if content then l.indent ++ 32 ∷ 32 ∷ [] else l.indent;
  is_open = content;
}
listed_after l End =
    record { text = l.text ++ feed_where l.is_open; indent = take (length l.indent - 2) l.indent; is_open = false }
listed_after l (Text text) = record l { text = l.text ++ 32 ∷ value_text text }
listed_after l (Opaque bytes) = record l { text = l.text ++ 32 ∷ value_text bytes }
