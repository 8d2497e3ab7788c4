-- What is told of the items and members that are left, where a command isn't executed.
use Rattle.std.proofs.Common.{◌≡◌, ℕ, suc, ◌+◌, ◌<◌, ◌≤◌, true, false, List, [], ◌∷◌, ◌++◌, length, drop}
use Rattle.std.proofs.Common.{get_or, refl, sym, ◌∙◌, ap, add-one, drop-cons}
use Rattle.std.proofs.lemmas.List.{drop_all}
use Rattle.syncml_types.specs.declared.values.Item.{Item}
use Rattle.syncml_types.specs.declared.command.Plain.{Plain}
use Rattle.syncml_types.specs.declared.command.Member.{Member}
use Rattle.syncml_types.specs.declared.command.Member.TheVariants as member
use Rattle.syncml_types.specs.declared.command.SeqMember.{SeqMember}
use Rattle.dm_atomic.specs.declared.tasks.Origin.{Origin}
use Rattle.dm_atomic.specs.declared.tasks.Post.{Post}
use Rattle.dm_atomic.specs.declared.tasks.Task.{Task}
use Rattle.dm_atomic.specs.Tasks.{item_post, item_tasks, member_tasks, members_tasks}
use Rattle.dm_atomic.specs.Made.{Made, Status}
use Rattle.dm_atomic.specs.Posts.{task_posts, member_posts, members_posts}
use Rattle.dm_atomic.specs.Answers.{statuses}
use Rattle.dm_atomic.proofs.TasksAhead.{next_item}

-- what is told of items, of members of an Atomic, and of members of a Sequence
abbrev pub items_made : ℕ → Origin → Plain → ℕ → List Item → List Made
items_made code origin command place items =
    statuses code (task_posts (item_tasks origin false command place items))

abbrev pub members_made : ℕ → Origin → List Member → List Made
members_made code origin ms = statuses code (task_posts (members_tasks origin true ms))

abbrev pub seq_made : ℕ → Origin → List SeqMember → List Made
seq_made code origin ms = statuses code (members_posts origin ms)

-- ---- posts don't know of the Atomic that they are in

same_items : (origin : Origin) (command : Plain) (place : ℕ) (items : List Item)
    → task_posts (item_tasks origin true command place items) ≡ task_posts (item_tasks origin false command place items)
same_items origin command place [] = refl
same_items origin command place (item ∷ items) =
    ap (λ ps. item_post origin command place item ∷ ps) (same_items origin command (suc place) items)

same_member : (origin : Origin) (m : Member)
    → task_posts (member_tasks origin true m) ≡ task_posts (member_tasks origin false m)
same_member origin (member.One command) = same_items origin command 0 command.items
same_member origin (member.Alert alert) = refl

posts_append : (a b : List Task) → task_posts (a ++ b) ≡ task_posts a ++ task_posts b
posts_append [] b = refl
posts_append (t ∷ a) b = ap (λ ps. t.post ∷ ps) (posts_append a b)

statuses_append : (code : ℕ) (a b : List Post) → statuses code (a ++ b) ≡ statuses code a ++ statuses code b
statuses_append code [] b = refl
statuses_append code (p ∷ a) b = ap (λ ms. Status p code ∷ ms) (statuses_append code a b)

-- ---- the next one

pub next_item_made : (code : ℕ) (origin : Origin) (command : Plain) (items shown : List Item) (k : ℕ) (item : Item)
    → shown ≡ items → k < length shown → item ≡ get_or shown k item
    → items_made code origin command k (drop k items)
    ≡ (Status (item_post origin command k item) code ∷ [])
    ++ items_made code origin command (k + 1) (drop (k + 1) items)
next_item_made code origin command items shown k item e l is = rw (sym e)
    (ap (λ ts. statuses code (task_posts ts)) (next_item origin false command shown k item l is))

pub no_item_made : (code : ℕ) (origin : Origin) (command : Plain) (items shown : List Item) (k : ℕ)
    → shown ≡ items → length shown ≤ k → items_made code origin command k (drop k items) ≡ []
no_item_made code origin command items shown k e l = rw (sym e)
    (ap (λ xs. items_made code origin command k xs) (drop_all k shown l))

front : {X : Type 0} (xs shown : List X) (k : ℕ) (x : X)
    → shown ≡ xs → k < length shown → x ≡ get_or shown k x → drop k xs ≡ x ∷ drop (k + 1) xs
front xs shown k x e l is = rw (sym e)
    (rw (add-one k) (drop-cons shown k x l ∙ ap (λ y. y ∷ drop (suc k) shown) (sym is)))

members_made_front : (code : ℕ) (origin : Origin) (m : Member) (ms : List Member)
    → members_made code origin (m ∷ ms)
    ≡ statuses code (task_posts (member_tasks origin false m)) ++ members_made code origin ms
members_made_front code origin m ms =
    ap (statuses code)
    (posts_append (member_tasks origin true m) (members_tasks origin true ms)
    ∙ ap (λ ps. ps ++ task_posts (members_tasks origin true ms)) (same_member origin m))
    ∙ statuses_append code (task_posts (member_tasks origin false m)) (task_posts (members_tasks origin true ms))

pub next_member_made : (code : ℕ) (origin : Origin) (xs shown : List Member) (k : ℕ) (x : Member)
    → shown ≡ xs → k < length shown → x ≡ get_or shown k x
    → members_made code origin (drop k xs)
    ≡ statuses code (task_posts (member_tasks origin false x)) ++ members_made code origin (drop (k + 1) xs)
next_member_made code origin xs shown k x e l is =
    ap (members_made code origin) (front xs shown k x e l is) ∙ members_made_front code origin x (drop (k + 1) xs)

pub next_seq_made : (code : ℕ) (origin : Origin) (xs shown : List SeqMember) (k : ℕ) (x : SeqMember)
    → shown ≡ xs → k < length shown → x ≡ get_or shown k x
    → seq_made code origin (drop k xs)
    ≡ statuses code (member_posts origin x) ++ seq_made code origin (drop (k + 1) xs)
next_seq_made code origin xs shown k x e l is =
    ap (seq_made code origin) (front xs shown k x e l is)
    ∙ statuses_append code (member_posts origin x) (members_posts origin (drop (k + 1) xs))
