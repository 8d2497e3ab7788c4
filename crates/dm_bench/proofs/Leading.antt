-- Lines that lead from one place of a start section to another.
use Rattle.std.proofs.Common.{◌≡◌, ◌≢◌, ◌==◌, ◌+◌, ◌/◌, ◌%◌, ℕ, Bool, true, false, List, [], ◌∷◌, ◌++◌, Ok, refl}
use Rattle.std.proofs.Common.{sym, ap, subst}
use Rattle.std.proofs.Common.{◌∙◌, add-one, arith}
use Rattle.std.proofs.lemmas.Bool.Decides.{nat_tests}
use Rattle.std.specs.Prelude.{codes, if◌then◌else◌}
use Rattle.dm_start.specs.declared.heads.Head.TheVariants.{First}
use Rattle.dm_start.specs.declared.telling.Phase.TheVariants as phase
use Rattle.dm_start.specs.Start.{Setup, Section, opening, telling, after_line, behind_line, lines_after}
use Rattle.dm_bench.specs.Start.{Leads, EndsSection, head_lines, group_uri, group_lines, lines_at, leaf_lines, start_of}
use Rattle.dm_bench.specs.Start.{setup_told}

pub leads_on : (xs ys : List (List ℕ)) (s t u : Section) → Leads s xs t → Leads t ys u → Leads s (xs ++ ys) u
leads_on [] ys s t u first behind = subst (λ p. Leads p ys u) first behind
leads_on (x ∷ xs) ys s t u first behind =
    (first.0, first.1, leads_on xs ys first.0 t u first.2 behind)

pub leads_by : (line wanted : List ℕ) (s t : Section) → line ≡ wanted → after_line s line ≡ Ok t
    → Leads s (wanted ∷ []) t
leads_by line wanted s t same is = (t, ap (after_line s) (sym same) ∙ is, refl)

-- ---- the head

pub head_leads : (a b c d e f g : Section) → after_line a (codes "dm-trace 1") ≡ Ok b
    → after_line b (codes "device d m o 1.2 en") ≡ Ok c
    → after_line c (codes "limits 65536 4194304") ≡ Ok d
    → after_line d (codes "account b - - - - -") ≡ Ok e
    → after_line e (codes "acl . Add=*&Delete=*&Exec=*&Get=*&Replace=*") ≡ Ok f
    → after_line f (codes "interior ./B") ≡ Ok g → Leads a head_lines g
head_leads a b c d e f g one two three four five six =
    (b, one, (c, two, (d, three, (e, four, (f, five, (g, six, refl))))))

-- ---- the leaves

group_by : (leaf : ℕ) (first : Bool) → (leaf % 256 == 0) ≡ first
    → group_lines leaf ≡ (if first then (codes "interior " ++ group_uri (leaf / 256)) ∷ [] else [])
group_by leaf first is = ap (λ b. if b then (codes "interior " ++ group_uri (leaf / 256)) ∷ [] else []) is

is_other : (n : ℕ) → n ≢ 0 → (n == 0) ≡ false
is_other n h = grind (arith, nat_tests)

is_same : (n : ℕ) → n ≡ 0 → (n == 0) ≡ true
is_same n h = grind (arith, nat_tests)

-- no group begins with this leaf
pub no_group : (leaf : ℕ) (s : Section) → leaf % 256 ≢ 0 → Leads s (group_lines leaf) s
no_group leaf s h = subst (λ lines. Leads s lines s) (sym (group_by leaf false (is_other (leaf % 256) h))) refl

pub some_group : (leaf : ℕ) (line : List ℕ) (s t : Section) → leaf % 256 ≡ 0
    → line ≡ codes "interior " ++ group_uri (leaf / 256) → after_line s line ≡ Ok t → Leads s (group_lines leaf) t
some_group leaf line s t h same is =
    subst (λ lines. Leads s lines t) (sym (group_by leaf true (is_same (leaf % 256) h)))
    (leads_by line (codes "interior " ++ group_uri (leaf / 256)) s t same is)

leaf_more : (leaf : ℕ) → leaf_lines (leaf + 1) ≡ leaf_lines leaf ++ lines_at leaf
leaf_more leaf = rw add-one refl

pub leads_more : (leaf : ℕ) (s t u : Section) → Leads s (leaf_lines leaf) t → Leads t (lines_at leaf) u
    → Leads s (leaf_lines (leaf + 1)) u
leads_more leaf s t u before now =
    subst (λ lines. Leads s lines u) (sym (leaf_more leaf))
    (leads_on (leaf_lines leaf) (lines_at leaf) s t u before now)

-- ---- the whole section

pub leads_to : (lines : List (List ℕ)) (n : ℕ) (s t : Section) (told : Setup) → Leads s lines t → EndsSection t told
    → lines_after n s (lines ++ codes "begin" ∷ []) ≡ Ok (telling phase.Begun told)
leads_to [] n s t told is ends =
    ap (λ r. behind_line n r (λ next. lines_after (n + 1) next [])) (subst (λ p. EndsSection p told) is ends)
leads_to (x ∷ xs) n s t told is ends =
    ap (λ r. behind_line n r (λ next. lines_after (n + 1) next (xs ++ codes "begin" ∷ []))) is.1
    ∙ leads_to xs (n + 1) is.0 t told is.2 ends

pub told_is : (nodes : ℕ) (s t u : Section) (told : Setup) → s ≡ opening First → Leads s head_lines t
    → Leads t (leaf_lines nodes) u → EndsSection u told → told ≡ start_of nodes
unfolding start_of
told_is nodes s t u told first head leaves ends =
    let led : Leads (opening First) (head_lines ++ leaf_lines nodes) u =
    subst (λ p. Leads p (head_lines ++ leaf_lines nodes) u) first
    (leads_on head_lines (leaf_lines nodes) s t u head leaves) in
    sym (ap setup_told (leads_to (head_lines ++ leaf_lines nodes) 1 (opening First) u told led ends))
