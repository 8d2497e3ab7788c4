-- The forms of a command line.
use Rattle.std.specs.Prelude.{◌==◌, ◌&&◌, ◌<◌, ◌≤◌, ℕ, Bool, false, not, if◌then◌else◌, bytes_eq, nat_le, codes, List}
use Rattle.std.specs.Prelude.{[], ◌∷◌, Option, Some, None, option_map, option_and_then, ⊤}
use Rattle.dm_base.specs.Fields.{is_word, num_of}
use Rattle.dm_machine.specs.declared.kinds.Initiator.{Initiator}
use Rattle.dm_machine.specs.declared.kinds.Initiator.TheVariants as kinds
use Rattle.dm_words.specs.declared.forms.Form.{Form}
use Rattle.dm_words.specs.declared.forms.Form.TheVariants as form
use Rattle.dm_words.specs.declared.subcommands.Subcommand.{Subcommand}
use Rattle.dm_words.specs.declared.subcommands.Subcommand.TheVariants as subcommand

-- ---- the first word

-- the subcommands, each with its word
abbrev pub subcommands : List (List ℕ × Subcommand)
subcommands =
    (codes "replay", subcommand.Replay) ∷ (codes "device", subcommand.Device) ∷ (codes "serve", subcommand.Serve)
    ∷ (codes "pair", subcommand.Pair) ∷ (codes "show", subcommand.Show) ∷ (codes "check", subcommand.Check)
    ∷ (codes "bench", subcommand.Bench) ∷ (codes "conform", subcommand.Conform) ∷ (codes "make", subcommand.Make) ∷ []

abbrev pub named_in : List (List ℕ × Subcommand) → List ℕ → Option Subcommand
named_in [] word = None
named_in (row ∷ rows) word = if bytes_eq word row.0 then Some row.1 else named_in rows word

abbrev pub subcommand_of : List ℕ → Option Subcommand
subcommand_of word = named_in subcommands word

-- the subcommand that exactly one word asks for
abbrev pub subcommand_in : List (List ℕ) → Option Subcommand
subcommand_in (word ∷ []) = subcommand_of word
subcommand_in other = None

-- a word has a byte, and begins with no hyphen
abbrev pub is_plain : List ℕ → Bool
is_plain [] = false
is_plain (b ∷ bs) = not (b == 45)

-- ---- the words behind it

-- a number in decimal digits, without sign and leading zero, from the least to the most
abbrev pub in_bounds : ℕ → ℕ → ℕ → Option ℕ
in_bounds least most n = if nat_le least n && nat_le n most then Some n else None

abbrev pub number_between : ℕ → ℕ → List ℕ → Option ℕ
number_between least most word = option_and_then (in_bounds least most) (num_of word)

-- a seed that fits 64 bits, 1 to 60,000 leaves, and 0 to 10,000 messages
abbrev pub workload_of : List ℕ → List ℕ → List ℕ → Option Form
workload_of seed nodes messages =
    option_and_then (λ s. option_and_then (λ n. option_map (λ m. form.Bench s n m) (number_between 0 10000 messages))
    (number_between 1 60000 nodes)) (num_of seed)

-- an address or the name of a server: 1 to 255 bytes of 21 to 7E, and no hyphen at the front
abbrev pub names_peer : List ℕ → Bool
names_peer word = is_plain word && is_word word

-- a path: as many such bytes, behind a slash
abbrev pub begins_with_slash : List ℕ → Bool
begins_with_slash [] = false
begins_with_slash (b ∷ bs) = b == 47

abbrev pub is_path : List ℕ → Bool
is_path word = begins_with_slash word && is_word word

-- who asks for the session
abbrev pub session_kind_in : List ℕ → Option Initiator
session_kind_in word = if bytes_eq word (codes "server") then Some kinds.ByServer
    else (if bytes_eq word (codes "client") then Some kinds.ByClient else None)

abbrev pub device_of : List ℕ → List ℕ → List ℕ → List ℕ → List ℕ → Option Form
device_of address server kind session path = if names_peer address && (names_peer server && is_path path)
    then option_and_then (λ k. option_map (λ s. form.Device (record {
      address = address;
      server = server;
      kind = k;
      session = s;
      path = path;
    })) (number_between 1 4294967294 session)) (session_kind_in kind)
    else None

abbrev pub serve_of : List ℕ → List ℕ → Option Form
serve_of address count = if names_peer address
    then option_map (λ n. form.Serve (record { address = address; count = n })) (number_between 1 1000000 count)
    else None

-- the form of no further word
abbrev pub without_words : Form → List (List ℕ) → Option Form
without_words f [] = Some f
without_words f (word ∷ words) = None

-- of two, of three and of five
abbrev pub two : List (List ℕ) → Option Form
two (address ∷ count ∷ []) = serve_of address count
two other = None

abbrev pub three : List (List ℕ) → Option Form
three (seed ∷ nodes ∷ messages ∷ []) = workload_of seed nodes messages
three other = None

abbrev pub five : List (List ℕ) → Option Form
five (address ∷ server ∷ kind ∷ session ∷ path ∷ []) = device_of address server kind session path
five other = None

abbrev pub form_with : Subcommand → List (List ℕ) → Option Form
form_with subcommand.Replay words = without_words form.Replay words
form_with subcommand.Device words = five words
form_with subcommand.Serve words = two words
form_with subcommand.Pair words = without_words form.Pair words
form_with subcommand.Show words = without_words form.Show words
form_with subcommand.Check words = without_words form.Check words
form_with subcommand.Bench words = three words
form_with subcommand.Conform words = without_words form.Conform words
form_with subcommand.Make words = without_words form.Make words

-- ---- all words

-- the form of the words: a subcommand and what stands behind it
abbrev pub form_of : List (List ℕ) → Option Form
form_of [] = None
form_of (word ∷ words) = option_and_then (λ s. form_with s words) (subcommand_of word)

-- the numbers of a form are within their bounds
abbrev pub IsWithinBounds : Form → Type 0
IsWithinBounds form.Replay = ⊤
IsWithinBounds (form.Device w) = (0 < w.session) × (w.session < 4294967295)
IsWithinBounds (form.Serve w) = (0 < w.count) × (w.count ≤ 1000000)
IsWithinBounds form.Pair = ⊤
IsWithinBounds form.Show = ⊤
IsWithinBounds form.Check = ⊤
IsWithinBounds (form.Bench seed nodes messages) = (0 < nodes) × (nodes ≤ 60000) × (messages ≤ 10000)
IsWithinBounds form.Conform = ⊤
IsWithinBounds form.Make = ⊤
