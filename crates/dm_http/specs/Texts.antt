-- The heads that are written: each line ended by CR LF, an empty line, and the message behind it.
use Rattle.std.specs.Prelude.{ℕ, List, [], ◌∷◌, ◌++◌, codes, length}
use Rattle.std.specs.Fmt.{decimal}

abbrev pub line_break : List ℕ
line_break = 13 ∷ 10 ∷ []

abbrev pub head_line : List ℕ → List ℕ → List ℕ
head_line name value = name ++ (codes ": " ++ (value ++ line_break))

abbrev pub request_line : List ℕ → List ℕ
request_line path = codes "POST " ++ (path ++ (codes " HTTP/1.1" ++ line_break))

abbrev pub host_line : List ℕ → List ℕ
host_line host = head_line (codes "Host") host

abbrev pub media_type : List ℕ
media_type = codes "application/vnd.syncml.dm+wbxml"

-- what is sent
abbrev pub type_line : List ℕ
type_line = head_line (codes "Content-Type") media_type

-- what is wanted
abbrev pub accept_line : List ℕ
accept_line = head_line (codes "Accept") media_type

abbrev pub length_line : ℕ → List ℕ
length_line n = head_line (codes "Content-Length") (decimal n)

-- the connection serves one exchange
abbrev pub last_lines : List ℕ
last_lines = head_line (codes "Connection") (codes "close") ++ line_break

unfoldable pub request_text : List ℕ → List ℕ → List ℕ → List ℕ
request_text host path body =
    request_line path ++ host_line host ++ type_line ++ accept_line ++ length_line (length body) ++ last_lines ++ body
