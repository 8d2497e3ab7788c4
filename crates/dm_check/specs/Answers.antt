-- What `show` and `check` write of one message, and how they end.
use Rattle.std.specs.Prelude.{ℕ, Bool, if◌then◌else◌, bytes_eq, codes, List, ◌++◌, length, Result, Ok, Err}
use Rattle.std.specs.Fmt.{decimal}
use Rattle.dm_base.specs.Lines.{line_feed}
use Rattle.wbxml_tokens.specs.declared.reason.Refusal.{Refusal}
use Rattle.syncml_types.specs.Message.{Parts}
use Rattle.syncml_types.specs.Canonical.{canonical}
use Rattle.syncml_types.specs.Lengths.{up_to_most}
use Rattle.syncml_codec.specs.Listing.{listing_of}
use Rattle.syncml_codec.specs.Decoding.{read_of}
use Rattle.dm_exit.specs.declared.exit.Exit.{Exit}
use Rattle.dm_exit.specs.declared.exit.Exit.TheVariants as exit
use Rattle.dm_texts.specs.Lines.{refused_line}

-- a message of so many bytes, and how many its canonical spelling has
abbrev pub ok_line : ℕ → ℕ → Bool → List ℕ
ok_line bytes spelling same =
    codes "ok " ++ decimal bytes ++ codes " " ++ decimal spelling
    ++ (if same then codes " canonical" else codes " other") ++ line_feed

abbrev pub check_answer : Result Parts Refusal → List ℕ
check_answer (Ok message) = listing_of message
check_answer (Err refusal) = refused_line refusal ++ line_feed

abbrev pub checked : List ℕ → Result Parts Refusal → List ℕ
checked bytes (Ok message) =
    ok_line (length bytes) (up_to_most (length (canonical message))) (bytes_eq bytes (canonical message))
checked bytes (Err refusal) = refused_line refusal ++ line_feed

abbrev pub exit_of : Result Parts Refusal → Exit
exit_of (Ok message) = exit.Done
exit_of (Err refusal) = exit.BadInput

-- the text of `show`: the listing of the message that the bytes spell, or their refusal
unfoldable pub show_text : List ℕ → List ℕ
show_text bytes = check_answer (read_of bytes)

-- the text of `check`: the lengths of the bytes and of the canonical spelling, and whether they are the same; or the
-- refusal
unfoldable pub check_text : List ℕ → List ℕ
check_text bytes = checked bytes (read_of bytes)

-- the answer of both, where nothing fails
unfoldable pub message_exit : List ℕ → Exit
message_exit bytes = exit_of (read_of bytes)
