-- Pages depend on the elements that are opened alone.
use Rattle.std.proofs.Common.{◌≡◌, ℕ, ◌+◌, Bool, true, false, if◌then◌else◌, List, [], ◌∷◌, ◌++◌, Option, Some, None}
use Rattle.std.proofs.Common.{option_and_then, refl, sym, ap, ◌∙◌}
use Rattle.std.specs.Fmt.{decimal}
use Rattle.std.specs.List.{flat_map}
use Rattle.wbxml_tables.specs.declared.Element.{Element}
use Rattle.wbxml_tables.specs.declared.Element.TheVariants.{EItem, EData}
use Rattle.wbxml_tables.specs.Tables.{page_of}
use Rattle.wbxml_tokens.specs.declared.token.Token.{Token}
use Rattle.wbxml_tokens.specs.declared.token.Token.TheVariants.{Tag, End, Text, Opaque}
use Rattle.wbxml_tokens.specs.Spelling.{page_behind}
use Rattle.syncml_types.specs.declared.values.Item.{Item}
use Rattle.syncml_types.specs.declared.values.Cred.{Cred}
use Rattle.syncml_types.specs.declared.values.Header.{Header}
use Rattle.syncml_types.specs.declared.command.Verb.{Verb}
use Rattle.syncml_types.specs.declared.command.Verb.TheVariants as verb
use Rattle.syncml_types.specs.declared.command.Member.{Member}
use Rattle.syncml_types.specs.declared.command.Member.TheVariants as member
use Rattle.syncml_types.specs.declared.command.SeqMember.{SeqMember}
use Rattle.syncml_types.specs.declared.command.SeqMember.TheVariants as seq_member
use Rattle.syncml_types.specs.declared.command.Command.{Command}
use Rattle.syncml_types.specs.declared.command.Command.TheVariants as command
use Rattle.syncml_types.specs.Canonical.{parent_tokens, element_tokens, is_text, data_tokens, text_tokens}
use Rattle.syncml_types.specs.Canonical.{number_tokens, optional, cred_tokens, header_tokens, item_children}
use Rattle.syncml_types.specs.Canonical.{item_tokens, items_tokens, plain_tokens, alert_tokens, member_tokens}
use Rattle.syncml_types.specs.Canonical.{members_tokens, atomic_tokens, seq_member_tokens, seq_members_tokens}
use Rattle.syncml_types.specs.Canonical.{sequence_tokens, status_tokens, results_tokens, command_tokens}
use Rattle.syncml_parts.specs.Numbering.{with_number, numbered_members, numbered_seq_member, numbered_seq_members}
use Rattle.syncml_parts.specs.Numbering.{ids_in_seq_member, with_numbers}
use Rattle.syncml_parts.specs.Packing.{only_item, write_item, member_item, seq_member_item, list_last, cut_item}
use Rattle.syncml_parts.specs.Packing.{only_changed, write_changed, member_changed, seq_member_changed, last_changed}
use Rattle.syncml_parts.specs.Packing.{cut_changed}
use Rattle.syncml_parts.specs.Pages.{opened_elements, PagesFollowElements, PageWithoutNumbers, with_item_value}
use Rattle.syncml_parts.specs.Pages.{PageWithoutData}
use Rattle.syncml_parts.specs.Pages.{with_secret, HeaderPage}
use Rattle.syncml_parts.proofs.Last.{last_next}

-- the page of the last of some elements, behind a page
page_of_last : ℕ → List Element → ℕ
page_of_last page [] = page
page_of_last page (e ∷ es) = page_of_last (page_of e) es

behind : (page : ℕ) (ts : List Token) → page_behind page ts ≡ page_of_last page (opened_elements ts)
unfolding page_of_last
behind page [] = refl
behind page (Tag e content ∷ ts) = behind (page_of e) ts
behind page (End ∷ ts) = behind page ts
behind page (Text text ∷ ts) = behind page ts
behind page (Opaque bytes ∷ ts) = behind page ts

pub pages_follow_elements : PagesFollowElements
pages_follow_elements page ts us same = behind page ts ∙ ap (page_of_last page) same ∙ sym (behind page us)

-- ---- tokens that open the same elements

opened_append : (ts us : List Token) → opened_elements (ts ++ us) ≡ opened_elements ts ++ opened_elements us
opened_append [] us = refl
opened_append (Tag e content ∷ ts) us = ap (λ l. e ∷ l) (opened_append ts us)
opened_append (End ∷ ts) us = opened_append ts us
opened_append (Text text ∷ ts) us = opened_append ts us
opened_append (Opaque bytes ∷ ts) us = opened_append ts us

record Same (ts us : List Token) : Type 0 where
  opened_same : opened_elements ts ≡ opened_elements us

itself : (ts : List Token) → Same ts ts
itself ts = record { opened_same = refl }

same_page : (page : ℕ) (ts us : List Token) → Same ts us → page_behind page ts ≡ page_behind page us
same_page page ts us h = pages_follow_elements page ts us h.opened_same

same_both : (ts us vs ws : List Token) → Same ts us → Same vs ws → Same (ts ++ vs) (us ++ ws)
same_both ts us vs ws h k = record {
  opened_same =
      opened_append ts vs ∙ ap (λ l. l ++ opened_elements vs) h.opened_same ∙ ap (λ l. opened_elements us ++ l) k.opened_same
      ∙ sym (opened_append us ws);
}

same_back : (vs ts us : List Token) → Same ts us → Same (ts ++ vs) (us ++ vs)
same_back vs ts us h = same_both ts us vs vs h (itself vs)

same_front : (vs ts us : List Token) → Same ts us → Same (vs ++ ts) (vs ++ us)
same_front vs ts us h = same_both vs vs ts us (itself vs) h

same_parent : (e : Element) (ts us : List Token) → Same ts us → Same (parent_tokens e ts) (parent_tokens e us)
same_parent e ts us h = same_front (Tag e true ∷ []) (ts ++ End ∷ []) (us ++ End ∷ []) (same_back (End ∷ []) ts us h)

nothing_behind : (es : List Element) → es ++ [] ≡ es
nothing_behind [] = refl
nothing_behind (e ∷ es) = ap (λ l. e ∷ l) (nothing_behind es)

opened_element : (e : Element) (ts : List Token) → opened_elements (element_tokens e ts) ≡ e ∷ opened_elements ts
opened_element e [] = refl
opened_element e (t ∷ ts) = ap (λ l. e ∷ l) (opened_append (t ∷ ts) (End ∷ []) ∙ nothing_behind (opened_elements (t ∷ ts)))

same_element : (e : Element) (ts us : List Token) → Same ts us → Same (element_tokens e ts) (element_tokens e us)
same_element e ts us h = record {
  opened_same = opened_element e ts ∙ ap (λ l. e ∷ l) h.opened_same ∙ sym (opened_element e us);
}

same_text : (e : Element) (v w : List ℕ) → Same (text_tokens e v) (text_tokens e w)
unfolding text_tokens
same_text e [] [] = record { opened_same = refl }
same_text e [] (b ∷ bs) = record { opened_same = refl }
same_text e (c ∷ cs) [] = record { opened_same = refl }
same_text e (c ∷ cs) (b ∷ bs) = record { opened_same = refl }

same_number : (e : Element) (n m : ℕ) → Same (number_tokens e n) (number_tokens e m)
unfolding number_tokens
same_number e n m = same_text e (decimal n) (decimal m)

opened_piece : (as_text : Bool) (v : List ℕ) → opened_elements ((if as_text then Text v else Opaque v) ∷ End ∷ []) ≡ []
opened_piece true v = refl
opened_piece false v = refl

opened_data : (v : List ℕ) → opened_elements (data_tokens v) ≡ EData ∷ []
unfolding data_tokens
opened_data [] = refl
opened_data (b ∷ bs) = ap (λ l. EData ∷ l) (opened_piece (is_text (b ∷ bs)) (b ∷ bs))

same_data : (v w : List ℕ) → Same (data_tokens v) (data_tokens w)
same_data v w = record { opened_same = opened_data v ∙ sym (opened_data w) }

-- ---- CmdIDs

same_member : (n : ℕ) (m : Member) → Same (member_tokens (with_number n m)) (member_tokens m)
unfolding member_tokens plain_tokens alert_tokens
same_member n (member.One c) =
    same_parent _ _ _ (same_back _ _ _ (same_back _ _ _ (same_back _ _ _ (same_back _ _ _ (same_number _ n c.id)))))
same_member n (member.Alert c) =
    same_parent _ _ _ (same_back _ _ _ (same_back _ _ _ (same_back _ _ _ (same_back _ _ _ (same_number _ n c.id)))))

same_members : (n : ℕ) (ms : List Member) → Same (members_tokens (numbered_members n ms)) (members_tokens ms)
unfolding members_tokens numbered_members
same_members n [] = itself []
same_members n (m ∷ ms) = same_both _ _ _ _ (same_member n m) (same_members (n + 1) ms)

same_seq_member : (n : ℕ) (m : SeqMember) → Same (seq_member_tokens (numbered_seq_member n m)) (seq_member_tokens m)
unfolding seq_member_tokens atomic_tokens
same_seq_member n (seq_member.Single m) = same_member n m
same_seq_member n (seq_member.Atomic b) =
    same_parent _ _ _
    (same_both _ _ _ _ (same_back _ _ _ (same_back _ _ _ (same_number _ n b.id))) (same_members (n + 1) b.members))

same_seq_members : (n : ℕ) (ms : List SeqMember)
    → Same (seq_members_tokens (numbered_seq_members n ms)) (seq_members_tokens ms)
unfolding seq_members_tokens numbered_seq_members
same_seq_members n [] = itself []
same_seq_members n (m ∷ ms) = same_both _ _ _ _ (same_seq_member n m) (same_seq_members (n + ids_in_seq_member m) ms)

same_command : (n : ℕ) (c : Command) → Same (command_tokens (with_numbers n c)) (command_tokens c)
unfolding command_tokens with_numbers plain_tokens alert_tokens atomic_tokens sequence_tokens status_tokens
    results_tokens
same_command n (command.Plain c) =
    same_parent _ _ _ (same_back _ _ _ (same_back _ _ _ (same_back _ _ _ (same_back _ _ _ (same_number _ n c.id)))))
same_command n (command.Alert c) =
    same_parent _ _ _ (same_back _ _ _ (same_back _ _ _ (same_back _ _ _ (same_back _ _ _ (same_number _ n c.id)))))
same_command n (command.Atomic b) =
    same_parent _ _ _
    (same_both _ _ _ _ (same_back _ _ _ (same_back _ _ _ (same_number _ n b.id))) (same_members (n + 1) b.members))
same_command n (command.Sequence b) =
    same_parent _ _ _
    (same_both _ _ _ _ (same_back _ _ _ (same_back _ _ _ (same_number _ n b.id))) (same_seq_members (n + 1) b.members))
same_command n (command.Status c) =
    same_parent _ _ _
    (same_back _ _ _
    (same_back _ _ _
    (same_back _ _ _
    (same_back _ _ _ (same_back _ _ _ (same_back _ _ _ (same_back _ _ _ (same_back _ _ _ (same_number _ n c.id)))))))))
same_command n (command.Results c) =
    same_parent _ _ _
    (same_back _ _ _
    (same_back _ _ _ (same_back _ _ _ (same_back _ _ _ (same_back _ _ _ (same_back _ _ _ (same_number _ n c.id)))))))

pub page_without_numbers : PageWithoutNumbers
page_without_numbers page first c = same_page page _ _ (same_command first c)

-- ---- Data

same_value : (new old : List ℕ) (o : Option (List ℕ)) → o ≡ Some old
    → Same (optional data_tokens (Some new)) (optional data_tokens o)
same_value new old o h = rw h (same_data new old)

same_item : (new old : List ℕ) (i : Item) → i.value ≡ Some old → Same (item_tokens (with_item_value new i)) (item_tokens i)
unfolding item_tokens
same_item new old i h =
    same_element EItem (item_children (with_item_value new i)) (item_children i)
    (same_back _ _ _ (same_front _ _ _ (same_value new old i.value h)))

same_only : (new old : List ℕ) (is : List Item) (i : Item) → only_item is ≡ Some i → i.value ≡ Some old
    → Same (items_tokens (only_changed (with_item_value new) is)) (items_tokens is)
unfolding items_tokens
same_only new old [] i h e = absurd (cc)
same_only new old (j ∷ []) i h e =
    let same : j ≡ i = cc in
    same_back [] _ _ (same_item new old j (ap (λ (x : Item). x.value) same ∙ e))
same_only new old (j ∷ k ∷ is) i h e = absurd (cc)

same_write : (new old : List ℕ) (v : Verb) (is : List Item) (i : Item) → write_item v is ≡ Some i → i.value ≡ Some old
    → Same (items_tokens (write_changed (with_item_value new) v is)) (items_tokens is)
same_write new old verb.Add is i h e = same_only new old is i h e
same_write new old verb.Replace is i h e = same_only new old is i h e
same_write new old verb.Copy is i h e = itself _
same_write new old verb.Delete is i h e = itself _
same_write new old verb.Exec is i h e = itself _
same_write new old verb.Get is i h e = itself _

same_cut_member : (new old : List ℕ) (m : Member) (i : Item) → member_item m ≡ Some i → i.value ≡ Some old
    → Same (member_tokens (member_changed (with_item_value new) m)) (member_tokens m)
unfolding member_tokens plain_tokens
same_cut_member new old (member.One c) i h e =
    same_parent _ _ _ (same_front _ _ _ (same_write new old c.verb c.items i h e))
same_cut_member new old (member.Alert c) i h e = itself _

same_cut_seq_member : (new old : List ℕ) (m : SeqMember) (i : Item) → seq_member_item m ≡ Some i → i.value ≡ Some old
    → Same (seq_member_tokens (seq_member_changed (with_item_value new) m)) (seq_member_tokens m)
unfolding seq_member_tokens
same_cut_seq_member new old (seq_member.Single m) i h e = same_cut_member new old m i h e
same_cut_seq_member new old (seq_member.Atomic b) i h e = itself _

same_last : {A : Type 0} (tokens : A → List Token) (item : A → Option Item) (changed : A → A) (old : List ℕ)
    → ((x : A) (i : Item) → item x ≡ Some i → i.value ≡ Some old → Same (tokens (changed x)) (tokens x))
    → (xs : List A) (i : Item) → option_and_then item (list_last xs) ≡ Some i → i.value ≡ Some old
    → Same (flat_map tokens (last_changed changed xs)) (flat_map tokens xs)
same_last tokens item changed old one [] i h e = itself _
same_last tokens item changed old one (x ∷ []) i h e = same_back [] _ _ (one x i h e)
same_last tokens item changed old one (x ∷ y ∷ xs) i h e =
    same_front (tokens x) _ _
    (same_last tokens item changed old one (y ∷ xs) i (ap (option_and_then item) (sym (last_next x y xs)) ∙ h) e)

same_cut : (new old : List ℕ) (c : Command) (i : Item) → cut_item c ≡ Some i → i.value ≡ Some old
    → Same (command_tokens (cut_changed (with_item_value new) c)) (command_tokens c)
unfolding command_tokens plain_tokens results_tokens atomic_tokens sequence_tokens members_tokens seq_members_tokens
same_cut new old (command.Plain c) i h e =
    same_parent _ _ _ (same_front _ _ _ (same_write new old c.verb c.items i h e))
same_cut new old (command.Alert c) i h e = itself _
same_cut new old (command.Atomic b) i h e =
    same_parent _ _ _
    (same_front _ _ _
    (same_last member_tokens member_item (member_changed (with_item_value new)) old (same_cut_member new old) b.members i h
    e))
same_cut new old (command.Sequence b) i h e =
    same_parent _ _ _
    (same_front _ _ _
    (same_last seq_member_tokens seq_member_item (seq_member_changed (with_item_value new)) old (same_cut_seq_member new old)
    b.members i h e))
same_cut new old (command.Status c) i h e = itself _
same_cut new old (command.Results c) i h e = same_parent _ _ _ (same_front _ _ _ (same_only new old c.items i h e))

pub page_without_data : PageWithoutData
page_without_data page c i old new is e = same_page page _ _ (same_cut new old c i is e)

-- ---- headers

same_cred : (value : List ℕ) (cred : Option Cred)
    → Same (optional cred_tokens (with_secret value cred)) (optional cred_tokens cred)
unfolding cred_tokens
same_cred value None = itself _
same_cred value (Some c) = same_parent _ _ _ (same_front _ _ _ (same_data value c.value))

same_header : (msg : ℕ) (session value : List ℕ) (h : Header)
    → Same (header_tokens (record h { msg = msg; session = session; cred = with_secret value h.cred }))
    (header_tokens h)
unfolding header_tokens
same_header msg session value h =
    same_parent _ _ _
    (same_back _ _ _ (same_both _ _ _ _ (same_back _ _ _ (same_back _ _ _ (same_back _ _ _ (same_back _ _ _
    (same_both _ _ _ _ (same_front _ _ _ (same_text _ session h.session)) (same_number _ msg h.msg))))))
    (same_cred value h.cred)))

pub header_page : HeaderPage
header_page page msg session value h = same_page page _ _ (same_header msg session value h)
