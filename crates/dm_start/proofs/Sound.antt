-- A whole start section tells what a client may begin with.
use Rattle.std.proofs.Common.{◌≡◌, ◌≤◌, ◌<◌, ◌+◌, ℕ, Bool, true, false, not, cond, List, [], ◌∷◌, length, Option, None}
use Rattle.std.proofs.Common.{Some, Ok, Err, refl, sym, subst, arith, inl, inr, length-append}
use Rattle.std.proofs.lemmas.Bool.{and_parts}
use Rattle.std.proofs.lemmas.Bool.Decides.{nat_tests}
use Rattle.std.specs.Prelude.{◌&&◌, ◌==◌, ◌⊎◌, Result, bytes_eq, nat_lt, nat_le, codes}
use Rattle.dm_base.specs.Fields.{parts, is_word, hex_of}
use Rattle.dm_base.specs.declared.lines.LineReason.{LineReason}
use Rattle.dm_base.specs.declared.lines.LineReason.TheVariants as reason
use Rattle.dm_base.specs.declared.values.Limits.{Limits}
use Rattle.dm_acl.specs.declared.values.AclError.{AclError}
use Rattle.dm_acl.specs.declared.values.Entries.{Entries}
use Rattle.dm_acl.specs.Reading.{parse_of as parse_acl}
use Rattle.dm_tree.specs.declared.nodes.Node.{Node}
use Rattle.dm_tree.specs.declared.nodes.Role.TheVariants as role
use Rattle.dm_tree.specs.declared.nodes.Stamp.{Stamp}
use Rattle.dm_tree.specs.Nodes.{Path, Nodes, with_acl, with_mark, with_title, first_stamp}
use Rattle.dm_tree.specs.Devices.{IsDeviceTree, IsText, StaysAlike}
use Rattle.dm_tree.proofs.BareDevices.{no_type}
use Rattle.dm_fields.specs.declared.errors.LineError.{LineError}
use Rattle.dm_start.specs.declared.heads.DeviceInfo.{DeviceInfo}
use Rattle.dm_start.specs.declared.heads.Head.{Head}
use Rattle.dm_start.specs.declared.heads.Head.TheVariants as head
use Rattle.dm_start.specs.declared.node_lines.LeafLine.{LeafLine}
use Rattle.dm_start.specs.declared.telling.Phase.{Phase}
use Rattle.dm_start.specs.declared.telling.Phase.TheVariants as phase
use Rattle.dm_start.specs.Fields.{path_in, leaf_of, leaf_in, is_leaf_format, only_path, acl_in, title_in}
use Rattle.dm_fields.specs.Fields.{begins_with}
use Rattle.dm_start.specs.Fields.{device_in, clock_in}
use Rattle.dm_fields.specs.Fields.{limits_in, account_in, are_limits}
use Rattle.dm_start.specs.Growing.{new_node, interior_value, with_one, with_update, changed_at, with_acl_at, is_title}
use Rattle.dm_start.specs.Growing.{with_title_at, may_be_permanent, with_mark_at, interior_line, with_leaf, leaf_line}
use Rattle.dm_start.specs.Growing.{acl_line, title_line, permanent_line, update_line, nodes_after}
use Rattle.dm_start.specs.Start.{Setup, Section, opening, telling, version_in, accounts_next, behind_limits}
use Rattle.dm_start.specs.Start.{after_opening}
use Rattle.dm_start.specs.Start.{is_known, account_added, account_line, begin_line, with_nodes, later_line}
use Rattle.dm_start.specs.Start.{after_telling, after_line, behind_line, lines_after, ReadsSection}
use Rattle.dm_start.specs.Laws.{IsStart, StartsAreSound}
use Rattle.dm_fields.specs.Fields.{IsAccount}
use Rattle.dm_start.specs.Soundness.{IsToldSoFar, IsShortDevice, IsSoundHead, IsSoundPhase, IsSoundSection}
use Rattle.dm_start.proofs.Sections.{is_version}
use Rattle.dm_fields.proofs.Told.{said, allowed, passed, same_ok, some_if}
use Rattle.dm_start.proofs.Sections.{is_short_device, all_push, apart_push}
use Rattle.dm_fields.proofs.Told.{in_limits, is_account}
use Rattle.dm_start.proofs.Devices.{added_device, changed_device, start_is_device, updated_device}
use Rattle.dm_fields.proofs.Words.{word_is_text}

-- ---- a line that tells of the tree

-- whatever the change, the value and what the node is for stay
same_for : (x : Node) (acl : Option Entries) → StaysAlike x (with_acl x acl)
same_for x acl = record { interior = refl; permanent = λ h. h; role = refl; value = inl refl }

titled : (x : Node) (title : List ℕ) → StaysAlike x (with_title x title)
titled x title = record { interior = refl; permanent = λ h. h; role = refl; value = inl refl }

marked : (x : Node) → StaysAlike x (with_mark x)
marked x = record { interior = refl; permanent = λ h. refl; role = refl; value = inl refl }

module _ (clock : Stamp) (m n : Nodes) (device : IsDeviceTree m) where
  after_interior : (fields : List (List ℕ)) → interior_line clock m fields ≡ Ok n → IsDeviceTree n
  after_interior fields e =
      let s = said reason.Fields (only_path fields)
      (λ p. with_one clock m p (new_node true interior_value false role.Plain)) n e in
      added_device clock m s.value (new_node true interior_value false role.Plain) n s.rest refl no_type device

  leaf_text : (fields : List (List ℕ)) (l : LeafLine) → leaf_in fields ≡ Some l → IsText l.value.media
  leaf_text [] l e = absurd (cc)
  leaf_text (w ∷ []) l e = absurd (cc)
  leaf_text (w ∷ u ∷ []) l e = absurd (cc)
  leaf_text (w ∷ u ∷ f ∷ []) l e = absurd (cc)
  leaf_text (w ∷ u ∷ f ∷ t ∷ []) l e = absurd (cc)
  leaf_text (w ∷ u ∷ f ∷ t ∷ b ∷ []) l e =
      let told = some_if (is_leaf_format f && is_word t) (leaf_of (path_in u) f t (hex_of b)) l e in
      by_parts (and_parts (is_leaf_format f) (is_word t) told.0).1 (path_in u) (hex_of b) told.1
    where
      some_leaf : (x y : LeafLine) → Some x ≡ Some y → x ≡ y
      some_leaf x y h = cc

      by_parts : is_word t ≡ true → (p : Option Path) (v : Option (List ℕ)) → leaf_of p f t v ≡ Some l
          → IsText l.value.media
      by_parts word None v h = absurd (cc)
      by_parts word (Some p) None h = absurd (cc)
      by_parts word (Some p) (Some v) h =
          subst (λ (x : LeafLine). IsText x.value.media) (some_leaf _ l h) (word_is_text t word)
  leaf_text (w ∷ u ∷ f ∷ t ∷ b ∷ x ∷ rest) l e = absurd (cc)

  after_leaf : (fields : List (List ℕ)) → leaf_line clock m fields ≡ Ok n → IsDeviceTree n
  after_leaf fields e =
      let s = said reason.Fields (leaf_in fields) (with_leaf clock m) n e in
      let new = new_node false s.value.value false role.Plain in
      let short =
      allowed (nat_le (length s.value.value.bytes) 4194304)
      (with_one clock m s.value.path new) reason.Tree n s.rest in
      added_device clock m s.value.path new n short.1 refl (leaf_text fields s.value s.is) device

  acl_laid : (p : Path) (r : Result Entries AclError) → with_acl_at m p r ≡ Ok n → IsDeviceTree n
  acl_laid p (Err x) e = absurd (cc)
  acl_laid p (Ok acl) e = changed_device m p (λ node. with_acl node (Some acl)) n e (λ x. same_for x (Some acl)) device

  after_acl : (fields : List (List ℕ)) → acl_line m fields ≡ Ok n → IsDeviceTree n
  after_acl fields e =
      let s = said reason.Fields (acl_in fields) (λ f. with_acl_at m f.0 (parse_acl f.1)) n e in
      acl_laid s.value.0 (parse_acl s.value.1) s.rest

  after_title : (fields : List (List ℕ)) → title_line m fields ≡ Ok n → IsDeviceTree n
  after_title fields e =
      let s = said reason.Fields (title_in fields) (λ f. with_title_at m f.0 f.1) n e in
      let change = λ (node : Node). with_title node s.value.1 in
      let fits = allowed (is_title s.value.1) (changed_at m s.value.0 change) reason.Tree n s.rest in
      changed_device m s.value.0 change n fits.1 (λ x. titled x s.value.1) device

  after_permanent : (fields : List (List ℕ)) → permanent_line m fields ≡ Ok n → IsDeviceTree n
  after_permanent fields e =
      let s = said reason.Fields (only_path fields) (with_mark_at m) n e in
      let may = allowed (may_be_permanent m s.value) (changed_at m s.value with_mark) reason.Tree n s.rest in
      changed_device m s.value with_mark n may.1 marked device

  after_update : (fields : List (List ℕ)) → update_line clock m fields ≡ Ok n → IsDeviceTree n
  after_update fields e =
      let s = said reason.Fields (only_path fields) (with_update clock m) n e in
      updated_device clock m s.value n s.rest device

  either : (P : Type 0) (b : Bool) (x y : Result Nodes LineReason) → cond b x y ≡ Ok n → (x ≡ Ok n → P)
      → (y ≡ Ok n → P) → P
  either P true x y e f g = f e
  either P false x y e f g = g e

  pub after_node_line : (line : List ℕ) → nodes_after clock m line ≡ Ok n → IsDeviceTree n
  unfolding nodes_after
  after_node_line line e =
      either (IsDeviceTree n) (begins_with (codes "interior") line) _ _ e (after_interior (parts line)) (λ e1.
      either (IsDeviceTree n) (begins_with (codes "leaf") line) _ _ e1 (after_leaf (parts line)) (λ e2.
      either (IsDeviceTree n) (begins_with (codes "acl") line) _ _ e2 (after_acl (parts line)) (λ e3.
      either (IsDeviceTree n) (begins_with (codes "title") line) _ _ e3 (after_title (parts line)) (λ e4.
      either (IsDeviceTree n) (begins_with (codes "permanent") line) _ _ e4 (after_permanent (parts line)) (λ e5.
      either (IsDeviceTree n) (begins_with (codes "fumo") line) _ _ e5 (after_update (parts line))
      (λ e6. absurd (cc)))))))

-- ---- what is kept from line to line

sound_start : (version : ℕ) (d : DeviceInfo) (l : Limits) (clock : Stamp) → (version ≡ 1) ⊎ (version ≡ 2) → IsShortDevice d
    → are_limits l.max_msg l.max_obj ≡ true → IsSoundSection (accounts_next version d l clock)
sound_start version d l clock known short within = record {
  version = known;
  limits = within;
  few = omega arith;
  accounts = tt;
  apart = tt;
  device = start_is_device clock d short;
}

behind : (version : ℕ) (d : DeviceInfo) (l : Limits) → (version ≡ 1) ⊎ (version ≡ 2) → IsShortDevice d
    → are_limits l.max_msg l.max_obj ≡ true
    → IsSoundSection (behind_limits version d l)
behind version d l known short within = by_version (version == 2)
  where
    by_version : (b : Bool) → IsSoundSection (cond b (opening (head.Clock d l)) (accounts_next version d l first_stamp))
    by_version true = (short, within)
    by_version false = sound_start version d l first_stamp known short within

sound_opening : (h : Head) (line : List ℕ) (t : Section) → IsSoundHead h → after_opening h line ≡ Ok t
    → IsSoundSection t
sound_opening head.First line t sound e =
    let s = said reason.Word (version_in line) (λ v. Ok (opening (head.Device v))) t e in
    subst IsSoundSection (same_ok _ t s.rest) (is_version line s.value s.is)
sound_opening (head.Device v) line t sound e =
    let word = allowed (begins_with (codes "device") line) _ reason.Word t e in
    let s = said reason.Fields (device_in (parts line)) (λ d. Ok (opening (head.Limits v d))) t word.1 in
    subst IsSoundSection (same_ok _ t s.rest) (sound, is_short_device (parts line) s.value s.is)
sound_opening (head.Limits v d) line t sound e =
    let word = allowed (begins_with (codes "limits") line) _ reason.Word t e in
    let s = said reason.Fields (limits_in (parts line)) (λ l. Ok (behind_limits v d l)) t word.1 in
    subst IsSoundSection (same_ok _ t s.rest) (behind v d s.value sound.0 sound.1 (in_limits (parts line) s.value s.is))
sound_opening (head.Clock d l) line t sound e =
    let word = allowed (begins_with (codes "clock") line) _ reason.Word t e in
    let s = said reason.Fields (clock_in (parts line)) (λ clock. Ok (accounts_next 2 d l clock)) t word.1 in
    subst IsSoundSection (same_ok _ t s.rest) (sound_start 2 d l s.value (inr refl) sound.0 sound.1)

-- ---- accounts

below_16 : (n : ℕ) → nat_lt n 16 ≡ true → n + 1 ≤ 16
below_16 n h = grind (arith, nat_tests)

not_true : (b : Bool) → not b ≡ true → b ≡ false
not_true false h = refl
not_true true h = absurd (cc)

sound_account : (told : Setup) (line : List ℕ) (t : Section) → IsToldSoFar told → account_line told line ≡ Ok t
    → IsSoundSection t
sound_account told line t kept e =
    let s = said reason.Fields (account_in (parts line)) (account_added told) t e in
    let room = nat_lt (length told.accounts) 16 in
    let known = is_known told.accounts s.value.server in
    let may = allowed (room && not known) _ reason.Account t s.rest in
    let both = and_parts room (not known) may.0 in
    let more = length-append told.accounts (s.value ∷ []) in
    subst IsSoundSection (same_ok _ t may.1) (record {
      version = kept.version;
      limits = kept.limits;
      few = omega (arith, more, below_16 (length told.accounts) both.0);
      accounts = all_push IsAccount told.accounts s.value kept.accounts (is_account (parts line) s.value s.is);
      apart = apart_push told.accounts s.value kept.apart (not_true known both.1);
      device = kept.device;
    })

-- ---- the lines behind them

grown : (told : Setup) (r : Result Nodes LineReason) (t : Section) → IsToldSoFar told → 0 < length told.accounts
    → ((n : Nodes) → r ≡ Ok n → IsDeviceTree n) → with_nodes told r ≡ Ok t → IsSoundSection t
grown told (Err why) t kept some device e = absurd (cc)
grown told (Ok n) t kept some device e =
    subst IsSoundSection (same_ok _ t e) (
      record {
        version = kept.version;
        limits = kept.limits;
        few = kept.few;
        accounts = kept.accounts;
        apart = kept.apart;
        device = device n refl;
      },
      some,
    )

sound_later : (told : Setup) (line : List ℕ) (t : Section) → IsToldSoFar told → 0 < length told.accounts
    → later_line told line ≡ Ok t → IsSoundSection t
sound_later told line t kept some e = by_word (begins_with (codes "begin") line) e
  where
    by_word : (b : Bool)
        → cond b (begin_line told line) (with_nodes told (nodes_after told.clock told.nodes line)) ≡ Ok t
        → IsSoundSection t
    by_word true h =
        let whole = allowed (bytes_eq line (codes "begin")) (Ok (telling phase.Begun told)) reason.Fields t h in
        subst IsSoundSection (same_ok _ t whole.1) (kept, some)
    by_word false h =
        grown told (nodes_after told.clock told.nodes line) t kept some
        (λ n is. after_node_line told.clock told.nodes n kept.device line is) h

some_of : (n : ℕ) → (n == 0) ≡ false → 0 < n
some_of n h = grind (arith, nat_tests)

sound_telling : (p : Phase) (told : Setup) (line : List ℕ) (t : Section) → IsSoundPhase p told
    → after_telling p told line ≡ Ok t → IsSoundSection t
sound_telling phase.Accounts told line t sound e = by_word (begins_with (codes "account") line) e
  where
    by_word : (b : Bool)
        → cond b (account_line told line)
        (cond (length told.accounts == 0) (Err reason.Word) (later_line told line)) ≡ Ok t → IsSoundSection t
    by_word true h = sound_account told line t sound h
    by_word false h =
        let some = passed (length told.accounts == 0) (later_line told line) reason.Word t h in
        sound_later told line t sound (some_of (length told.accounts) some.0) some.1
sound_telling phase.Nodes told line t sound e = sound_later told line t sound.0 sound.1 e
sound_telling phase.Begun told line t sound e = absurd (cc)

pub sound_line : (s : Section) (line : List ℕ) (t : Section) → IsSoundSection s → after_line s line ≡ Ok t
    → IsSoundSection t
unfolding after_line
sound_line (opening h) line t sound e = sound_opening h line t sound e
sound_line (telling p told) line t sound e = sound_telling p told line t sound e

-- whatever a line is answered, the section stays sound
pub sound_read : (s : Section) (line : List ℕ) (t : Section) (r : Result Bool LineError) → IsSoundSection s
    → ReadsSection (after_line s line) s t r → IsSoundSection t
sound_read s line t (Ok last) sound h = sound_line s line t sound h.0
sound_read s line t (Err e) sound h = subst IsSoundSection (sym h.1) sound

-- ---- all lines

by_line : (lines : List (List ℕ)) (n : ℕ) (s t : Section) (line : List ℕ) (r : Result Section LineReason)
    → IsSoundSection s → after_line s line ≡ r
    → behind_line n r (λ next. lines_after (n + 1) next lines) ≡ Ok t
    → ((next : Section) → IsSoundSection next → lines_after (n + 1) next lines ≡ Ok t → IsSoundSection t)
    → IsSoundSection t
by_line lines n s t line (Err why) sound is h rest = absurd (cc)
by_line lines n s t line (Ok next) sound is h rest = rest next (sound_line s line next sound is) h

same_section : (x y : Section) → ◌≡◌ {A = Result Section (ℕ × LineReason)} (Ok x) (Ok y) → x ≡ y
same_section x y h = cc

sound_lines : (lines : List (List ℕ)) (n : ℕ) (s t : Section) → IsSoundSection s → lines_after n s lines ≡ Ok t
    → IsSoundSection t
sound_lines [] n s t sound e = subst IsSoundSection (same_section s t e) sound
sound_lines (line ∷ lines) n s t sound e =
    by_line lines n s t line (after_line s line) sound refl e
    (λ next sound_next h. sound_lines lines (n + 1) next t sound_next h)

-- a whole section tells what a client may begin with
pub sound_told : (told : Setup) → IsSoundSection (telling phase.Begun told) → IsStart told
sound_told told sound = record {
  version = sound.0.version;
  limits = sound.0.limits;
  some = sound.1;
  few = sound.0.few;
  accounts = sound.0.accounts;
  apart = sound.0.apart;
  device = sound.0.device;
}

pub starts_are_sound : StartsAreSound
starts_are_sound lines told e =
    sound_told told (sound_lines lines 1 (opening head.First) (telling phase.Begun told) tt e)
