-- The lengths of canonical spellings. A length past the greatest 64-bit number is given as that number.
use Rattle.std.specs.Prelude.{◌+◌, ◌-◌, ◌^◌, ℕ, min, true, List, ◌∷◌, length}
use Rattle.wbxml_tables.specs.declared.Element.TheVariants.{ESyncML}
use Rattle.wbxml_tokens.specs.declared.token.Token.{Token}
use Rattle.wbxml_tokens.specs.declared.token.Token.TheVariants.{Tag}
use Rattle.wbxml_tokens.specs.Spelling.{token_bytes, page_after, spelled, page_behind}
use Rattle.syncml_types.specs.declared.values.Header.{Header}
use Rattle.syncml_types.specs.declared.lengths.Counter.{Counter}
use Rattle.syncml_types.specs.Canonical.{header_tokens}

abbrev pub up_to_most : ℕ → ℕ
up_to_most n = min n (2 ^ 64 - 1)

-- the length of tokens from a page on, behind so many bytes
abbrev pub spelled_length : ℕ → ℕ → List Token → ℕ
spelled_length before page tokens = up_to_most (before + length (spelled page tokens))

-- what stands before the body
abbrev pub head_tokens : Header → List Token
head_tokens h = Tag ESyncML true ∷ header_tokens h

-- a counter after one more token
abbrev pub counter_after : Counter → Token → Counter
counter_after c t = record { count = up_to_most (c.count + length (token_bytes c.page t)); page = page_after c.page t }

-- and after all of these
abbrev pub counter_past : Counter → List Token → Counter
counter_past c tokens = record { count = spelled_length c.count c.page tokens; page = page_behind c.page tokens }
