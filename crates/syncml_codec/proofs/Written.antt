-- A writer that is given tokens appends their spelling.
use Rattle.std.proofs.Common.{◌≡◌, List, [], ◌∷◌, ◌++◌, sym, ◌∙◌, append_assoc}
use Rattle.std.proofs.lemmas.List.{append-nil}
use Rattle.wbxml_tokens.specs.declared.token.Token.{Token}
use Rattle.wbxml_tokens.specs.Spelling.{WrittenSoFar, written_after, given, spelled, token_bytes, page_after}

pub bytes_written : (w : WrittenSoFar) (tokens : List Token)
    → (given written_after w tokens).bytes ≡ w.bytes ++ spelled w.page tokens
bytes_written w [] = sym (append-nil w.bytes)
bytes_written w (t ∷ ts) =
    bytes_written (written_after w t) ts
    ∙ append_assoc w.bytes (token_bytes w.page t) (spelled (page_after w.page t) ts)
