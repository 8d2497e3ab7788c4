-- The first package of a session can be sent.
use Rattle.std.proofs.Common.{◌≡◌, ◌<◌, ◌≤◌, ◌+◌, ◌^◌, ℕ, Bool, true, false, List, [], ◌∷◌, ◌++◌, length, codes, map}
use Rattle.std.proofs.Common.{Option, Some, None, IfSome, refl, arith, if◌then◌else◌, ◌∙◌, ap, subst, sym}
use Rattle.std.specs.Fmt.{decimal}
use Rattle.std.proofs.lemmas.Fmt.{decimal_step, decimal_digit}
use Rattle.std.specs.List.{list_all, find, AllByRecursion}
use Rattle.std.specs.Option.{option_map, option_map_or}
use Rattle.std.specs.FinMap.{entries}
use Rattle.std.proofs.lemmas.Bool.{and_from}
use Rattle.wbxml_tables.specs.declared.Element.TheVariants.{EAlert, ECmdID, ECorrelator, EData, EFormat, EItem, ELocURI}
use Rattle.wbxml_tables.specs.declared.Element.TheVariants.{EMeta, EReplace, ESource, EType}
use Rattle.syncml_types.specs.declared.values.Item.{Item}
use Rattle.syncml_types.specs.declared.command.Verb.TheVariants.{Replace}
use Rattle.syncml_types.specs.declared.command.Command.{Command}
use Rattle.syncml_types.specs.declared.command.Command.TheVariants as command
use Rattle.syncml_types.specs.Canonical.{is_text, optional, text_tokens, flag_tokens, loc_tokens, meta_tokens}
use Rattle.syncml_types.specs.Canonical.{item_tokens, items_tokens, plain_tokens, alert_tokens, command_tokens}
use Rattle.syncml_types.specs.Fitness.{all_of, is_in_limit, loc_texts, meta_texts, item_texts, item_data, plain_texts}
use Rattle.syncml_types.specs.Fitness.{alert_texts, command_texts, command_data, command_numbers, command_filled}
use Rattle.syncml_types.specs.Fitness.{command_correlates, plain_filled, plain_correlates}
use Rattle.syncml_parts.specs.Numbering.{with_numbers}
use Rattle.dm_uri.specs.Names.{printed_path}
use Rattle.dm_uri.proofs.Limits.{all_forms}
use Rattle.dm_tree.specs.declared.nodes.Node.{Node}
use Rattle.dm_tree.specs.Nodes.{Path, Nodes, IsWellFormed}
use Rattle.dm_tree.specs.Devices.{device_path, value_at, is_update_node, IsDeviceLeaf}
use Rattle.dm_tree.proofs.FirstKeys.{entry_there}
use Rattle.dm_fumo.specs.States.{result_code}
use Rattle.dm_atomic.specs.Made.{source_item}
use Rattle.dm_pack.specs.Entries.{IsReady, whole_entry, bare_length}
use Rattle.dm_pack.proofs.Most.{Most, none, most_append, most_parent, most_element, most_text, most_number}
use Rattle.dm_pack.proofs.Ready.{IsText, IsOptional, Passes, texts_pass, short_passes, alert_ready}
use Rattle.dm_machine.specs.declared.kinds.Initiator.{Initiator}
use Rattle.dm_machine.specs.declared.kinds.Initiator.TheVariants.{ByServer, ByClient}
use Rattle.dm_machine.specs.declared.progress.UpdateResult.{UpdateResult}
use Rattle.dm_machine.specs.Machine.{Machine}
use Rattle.dm_machine.specs.Opening.{alert, kind_code, typed_meta, result_alert, update_uri, device_item, device_told}
use Rattle.dm_machine.specs.Opening.{first_package}
use Rattle.dm_machine.specs.Ready.{IsCorrelator, AreReadyResults, IsDevice}
use Rattle.dm_ends.proofs.Uris.{printed_path_text}
use Rattle.dm_ends.proofs.Texts.{is_low, literal, pass_text}
use Rattle.dm_machine.proofs.OwnHeaders.{leaf_text}
use Rattle.dm_ends.proofs.Headers.{most_data}

-- ---- the path of the update node

update_text : (m : Nodes) → IsWellFormed m → IsText 255 (update_uri m)
update_text m formed = by_entry (find (λ e. is_update_node e.1.role) (entries m)) refl
  where
    by_entry : (o : Option (Path × Node)) → find (λ e. is_update_node e.1.role) (entries m) ≡ o
        → IsText 255 (option_map_or printed_path (option_map (λ e. e.0) o) [])
    by_entry None is = literal 255 [] refl (omega arith)
    by_entry (Some d) is =
        let there = entry_there m (λ e. is_update_node e.1.role) d is in
        let limits = formed.paths d.0 d.1 there.0 in
        printed_path_text d.0 (all_forms d.0 limits.0.names).0 limits.1

-- ---- an item with its path, Format, Type and Data

source_most : (n : ℕ) (uri : List ℕ) → IsText n uri
    → Most (n + 10) (loc_tokens ESource (record { uri = uri; name = None }))
unfolding loc_tokens
source_most n uri is =
    let inside = most_parent ESource (most_append (most_text n ELocURI uri is.few) none) in
    record { at = λ p. let most = inside.at p in omega (arith, most) }

meta_most : (k : ℕ) (media : List ℕ) → IsText k media → Most (k + 19) (meta_tokens (typed_meta (codes "chr") media))
unfolding meta_tokens
meta_most k media is =
    let inside = most_element _ EMeta
    (most_append (most_append (most_append (most_append (most_append (most_append (most_append
    (most_text 3 EFormat (codes "chr") (omega arith))
    (most_text k EType media is.few)) none) none) none) none) none) none) in
    record { at = λ p. let most = inside.at p in omega (arith, most) }

item_most : (n k d : ℕ) (uri media value : List ℕ) → IsText n uri → IsText k media → IsText d value
    → Most (n + k + d + 39) (item_tokens (source_item uri (Some (typed_meta (codes "chr") media)) (Some value)))
unfolding item_tokens flag_tokens
item_most n k d uri media value u m v =
    let inside = most_element _ EItem
    (most_append
    (most_append (most_append (most_append none (source_most n uri u)) (meta_most k media m))
    (most_data d value v)) none) in
    record { at = λ p. let most = inside.at p in omega (arith, most) }

item_pass : (test : List ℕ → Bool) (n k : ℕ) (uri media value : List ℕ) → Passes test → n ≤ 1000 → k ≤ 1000
    → IsText n uri → IsText k media
    → item_texts test (source_item uri (Some (typed_meta (codes "chr") media)) (Some value)) ≡ true
unfolding item_texts loc_texts meta_texts
item_pass test n k uri media value passes low few u m =
    rw (
      pass_text test n uri passes low u,
      pass_text test 20 (codes "chr") passes (omega arith) (literal 20 (codes "chr") refl (omega arith)),
      pass_text test k media passes few m,
    ) refl

-- ---- the Alert of a result

optional_pass : (test : List ℕ → Bool) (o : Option (List ℕ)) → Passes test → IsOptional 255 o → all_of test o ≡ true
optional_pass test None passes is = refl
optional_pass test (Some t) passes is = pass_text test 255 t passes (omega arith) is

optional_most : (o : Option (List ℕ)) → IsOptional 255 o → Most 261 (optional (text_tokens ECorrelator) o)
optional_most None is = record { at = λ p. omega arith }
optional_most (Some t) is = most_text 255 ECorrelator t is.few

correlator_is : (o : Option (List ℕ)) → IfSome o IsCorrelator → IsOptional 255 o
correlator_is None h = tt
correlator_is (Some t) h = record { text = h.text_is; few = h.short }

media_text : IsText 60 (codes "org.openmobilealliance.dm.firmwareupdate.update")
media_text = literal 60 (codes "org.openmobilealliance.dm.firmwareupdate.update") refl (omega arith)

pub result_digits : (ok : Bool) → decimal (result_code ok) ≡ (if ok then codes "200" else codes "410")
result_digits true =
    decimal_step 200 (omega arith) (omega arith)
    ∙ ap (λ ds. ds ++ 48 ∷ [])
    (decimal_step 20 (omega arith) (omega arith) ∙ ap (λ ds. ds ++ 48 ∷ []) (decimal_digit 2 (omega arith)))
result_digits false =
    decimal_step 410 (omega arith) (omega arith)
    ∙ ap (λ ds. ds ++ 48 ∷ [])
    (decimal_step 41 (omega arith) (omega arith) ∙ ap (λ ds. ds ++ 49 ∷ []) (decimal_digit 4 (omega arith)))

digits_text : (ok : Bool) → IsText 3 (if ok then codes "200" else codes "410")
digits_text true = literal 3 (codes "200") refl (omega arith)
digits_text false = literal 3 (codes "410") refl (omega arith)

code_text : (ok : Bool) → IsText 3 (decimal (result_code ok))
code_text ok = subst (IsText 3) (sym (result_digits ok)) (digits_text ok)

told_most : (code : ℕ) (correlator : Option (List ℕ)) (i : Item) → code < 2 ^ 32 → IsOptional 255 correlator
    → Most 357 (item_tokens i) → Most 670 (command_tokens (with_numbers 1000000000 (alert code correlator (i ∷ []))))
unfolding command_tokens with_numbers alert_tokens flag_tokens items_tokens
told_most code correlator i low is item =
    let inside = most_parent EAlert
    (most_append
    (most_append
    (most_append (most_append (most_number ECmdID 1000000000 (omega arith)) none) (most_number EData code low))
    (optional_most correlator is))
    (most_append item none)) in
    record { at = λ p. let most = inside.at p in omega (arith, most) }

told_pass : (test : List ℕ → Bool) (code : ℕ) (correlator : Option (List ℕ)) (i : Item) → Passes test
    → IsOptional 255 correlator → item_texts test i ≡ true → command_texts test (alert code correlator (i ∷ [])) ≡ true
unfolding command_texts alert_texts
told_pass test code correlator i passes is item =
    and_from _ _ (optional_pass test correlator passes is) (and_from _ _ item refl)

told_ready : (code : ℕ) (correlator : Option (List ℕ)) (n k d : ℕ) (uri media value : List ℕ) → code < 2 ^ 32
    → IsOptional 255 correlator → n + k + d ≤ 318 → IsText n uri → IsText k media → IsText d value
    → IsReady (whole_entry (alert code correlator
    (source_item uri (Some (typed_meta (codes "chr") media)) (Some value) ∷ [])))
unfolding command_data command_numbers command_filled command_correlates with_numbers item_data
told_ready code correlator n k d uri media value low is few u m v =
    let item = item_most n k d uri media value u m v in
    record {
      fit = record {
        texts = told_pass is_text code correlator _ texts_pass is
            (item_pass is_text n k uri media value texts_pass (omega (arith, few)) (omega (arith, few)) u m);
        numbers = refl;
        filled = refl;
        correlators = refl;
        short_texts = told_pass is_in_limit code correlator _ short_passes is
            (item_pass is_in_limit n k uri media value short_passes (omega (arith, few)) (omega (arith, few)) u m);
        short_data = and_from _ _ (pass_text is_in_limit d value short_passes (omega (arith, few)) v) refl;
      };
      short =
          let short : Most 357 (item_tokens (source_item uri (Some (typed_meta (codes "chr") media)) (Some value))) =
          record { at = λ p. let most = item.at p in omega (arith, most, few) } in
          let most = (told_most code correlator _ low is short).at 0 in
          omega (arith, most);
    }

result_ready : (node : List ℕ) (r : UpdateResult) → IsText 255 node → IfSome r.correlator IsCorrelator
    → IsReady (whole_entry (result_alert node r))
result_ready node r n h =
    told_ready 1226 r.correlator 255 60 3 node _ _ (omega arith) (correlator_is r.correlator h)
    (omega arith) n media_text (code_text r.ok)

results_ready : (node : List ℕ) (rs : List UpdateResult) → IsText 255 node → AreReadyResults rs
    → AllByRecursion IsReady (map whole_entry (map (result_alert node) rs))
results_ready node [] n h = tt
results_ready node (r ∷ rs) n h = (result_ready node r n h.0, results_ready node rs n h.1)

-- ---- the Alert of the session

opening_ready : (kind : Initiator) → IsReady (whole_entry (alert (kind_code kind) None []))
opening_ready ByServer = alert_ready 1200 [] (omega arith) tt
opening_ready ByClient = alert_ready 1201 [] (omega arith) tt

-- ---- the device

named_text : (name : List ℕ) → list_all is_low (printed_path (device_path name)) ≡ true
    → length (printed_path (device_path name)) ≤ 15 → IsText 15 (printed_path (device_path name))
named_text name low few = literal 15 (printed_path (device_path name)) low few

plain_text : IsText 10 (codes "text/plain")
plain_text = literal 10 (codes "text/plain") refl (omega arith)

leaf_most : (m : Nodes) (name : List ℕ) → IsDeviceLeaf m name → IsText 15 (printed_path (device_path name))
    → Most 128 (item_tokens (device_item m name))
leaf_most m name leaf path =
    let item = item_most 15 10 64 (printed_path (device_path name)) (codes "text/plain")
    (value_at m (device_path name)) path plain_text (leaf_text m name leaf) in
    record { at = λ p. let most = item.at p in omega (arith, most) }

leaf_pass : (test : List ℕ → Bool) (m : Nodes) (name : List ℕ) → Passes test
    → IsText 15 (printed_path (device_path name)) → item_texts test (device_item m name) ≡ true
leaf_pass test m name passes path =
    item_pass test 15 10 (printed_path (device_path name)) (codes "text/plain") (value_at m (device_path name)) passes
    (omega arith) (omega arith) path plain_text

leaf_data : (m : Nodes) (name : List ℕ) → IsDeviceLeaf m name → item_data is_in_limit (device_item m name) ≡ true
unfolding item_data
leaf_data m name leaf =
    pass_text is_in_limit 64 (value_at m (device_path name)) short_passes (omega arith) (leaf_text m name leaf)

-- five items of a Replace
replace_of : List Item → Command
replace_of items =
    command.Plain (record { verb = Replace; id = 0; no_resp = false; meta = None; correlator = None; items = items })

five_most : (a b c d e : Item) → Most 128 (item_tokens a) → Most 128 (item_tokens b) → Most 128 (item_tokens c)
    → Most 128 (item_tokens d) → Most 128 (item_tokens e) → bare_length (replace_of (a ∷ b ∷ c ∷ d ∷ e ∷ [])) ≤ 700
unfolding command_tokens with_numbers plain_tokens flag_tokens items_tokens replace_of
five_most a b c d e v w x y z =
    let inside = most_parent EReplace
    (most_append (most_append (most_append (most_append (most_number ECmdID 1000000000 (omega arith)) none) none) none)
    (most_append v (most_append w (most_append x (most_append y (most_append z none)))))) in
    let most = inside.at 0 in
    omega (arith, most)

all_five : (test : Item → Bool) (a b c d e : Item) → test a ≡ true → test b ≡ true → test c ≡ true → test d ≡ true
    → test e ≡ true → list_all test (a ∷ b ∷ c ∷ d ∷ e ∷ []) ≡ true
all_five test a b c d e v w x y z = rw (v, w, x, y, z) refl

record IsLeaf (i : Item) : Type 0 where
  texts : item_texts is_text i ≡ true
  short_texts : item_texts is_in_limit i ≡ true
  short_data : item_data is_in_limit i ≡ true
  most : Most 128 (item_tokens i)

leaf_is : (m : Nodes) (name : List ℕ) → IsDeviceLeaf m name → IsText 15 (printed_path (device_path name))
    → IsLeaf (device_item m name)
leaf_is m name leaf path = record {
  texts = leaf_pass is_text m name texts_pass path;
  short_texts = leaf_pass is_in_limit m name short_passes path;
  short_data = leaf_data m name leaf;
  most = leaf_most m name leaf path;
}

five_texts : (test : List ℕ → Bool) (a b c d e : Item) → item_texts test a ≡ true → item_texts test b ≡ true
    → item_texts test c ≡ true → item_texts test d ≡ true → item_texts test e ≡ true
    → command_texts test (replace_of (a ∷ b ∷ c ∷ d ∷ e ∷ [])) ≡ true
unfolding command_texts plain_texts replace_of
five_texts test a b c d e v w x y z = all_five (item_texts test) a b c d e v w x y z

five_data : (a b c d e : Item) → item_data is_in_limit a ≡ true → item_data is_in_limit b ≡ true
    → item_data is_in_limit c ≡ true
    → item_data is_in_limit d ≡ true → item_data is_in_limit e ≡ true
    → command_data is_in_limit (replace_of (a ∷ b ∷ c ∷ d ∷ e ∷ [])) ≡ true
unfolding command_data replace_of
five_data a b c d e v w x y z = all_five (item_data is_in_limit) a b c d e v w x y z

five_ready : (a b c d e : Item) → IsLeaf a → IsLeaf b → IsLeaf c → IsLeaf d → IsLeaf e
    → IsReady (whole_entry (replace_of (a ∷ b ∷ c ∷ d ∷ e ∷ [])))
unfolding command_numbers command_filled plain_filled command_correlates plain_correlates with_numbers replace_of
five_ready a b c d e v w x y z =
    record {
      fit = record {
        texts = five_texts is_text a b c d e v.texts w.texts x.texts y.texts z.texts;
        numbers = refl;
        filled = refl;
        correlators = refl;
        short_texts = five_texts is_in_limit a b c d e v.short_texts w.short_texts x.short_texts y.short_texts
            z.short_texts;
        short_data = five_data a b c d e v.short_data w.short_data x.short_data y.short_data z.short_data;
      };
      short = five_most a b c d e v.most w.most x.most y.most z.most;
    }

device_ready : (m : Nodes) → IsDevice m → IsReady (whole_entry (device_told m))
unfolding replace_of
device_ready m device =
    five_ready _ _ _ _ _
    (leaf_is m (codes "DevId") device.device.dev_id (named_text (codes "DevId") refl (omega arith)))
    (leaf_is m (codes "Man") device.device.man (named_text (codes "Man") refl (omega arith)))
    (leaf_is m (codes "Mod") device.device.model (named_text (codes "Mod") refl (omega arith)))
    (leaf_is m (codes "DmV") device.device.dm_v (named_text (codes "DmV") refl (omega arith)))
    (leaf_is m (codes "Lang") device.device.lang (named_text (codes "Lang") refl (omega arith)))

-- ---- the package

last_ready : (rs : List UpdateResult) (node : List ℕ) (c : Command)
    → AllByRecursion IsReady (map whole_entry (map (result_alert node) rs)) → IsReady (whole_entry c)
    → AllByRecursion IsReady (map whole_entry (map (result_alert node) rs ++ c ∷ []))
last_ready [] node c all ready = (ready, tt)
last_ready (r ∷ rs) node c all ready = (all.0, last_ready rs node c all.1 ready)

pub package_ready : (c : Machine) (kind : Initiator) → IsDevice c.engine.tree → AreReadyResults c.results
    → AllByRecursion IsReady (first_package c kind)
package_ready c kind device results =
    let node = update_uri c.engine.tree in (
      opening_ready kind,
      last_ready c.results node (device_told c.engine.tree)
          (results_ready node c.results (update_text c.engine.tree device.formed) results)
          (device_ready c.engine.tree device),
    )
