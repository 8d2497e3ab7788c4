-- What a server writes: a message, that the session is over, or that it takes no message.
use Rattle.std.specs.Prelude.{ℕ, List, ◌++◌, codes, length}
use Rattle.dm_core.specs.Machines.{CoreReply, message, over, bad}
use Rattle.dm_http.specs.Texts.{line_break, head_line, type_line, length_line, last_lines}

abbrev pub reply_line : List ℕ → List ℕ
reply_line status = codes "HTTP/1.1 " ++ (status ++ line_break)

unfoldable pub message_reply : List ℕ → List ℕ
message_reply body = reply_line (codes "200 OK") ++ type_line ++ length_line (length body) ++ last_lines ++ body

-- it has no body, and says no length
unfoldable pub over_reply : List ℕ
over_reply = reply_line (codes "204 No Content") ++ last_lines

unfoldable pub refusal_reply : List ℕ
refusal_reply = reply_line (codes "400 Bad Request") ++ head_line (codes "Content-Length") (codes "0") ++ last_lines

abbrev pub reply_bytes : CoreReply → List ℕ
reply_bytes (message m) = message_reply m
reply_bytes over = over_reply
reply_bytes bad = refusal_reply
