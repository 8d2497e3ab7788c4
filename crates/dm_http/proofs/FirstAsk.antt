-- Before the first byte came, no reply is settled.
use Rattle.std.proofs.Common.{◌≡◌, ◌++◌, ℕ, List, [], ◌∷◌, inl, refl, sym, ap, subst, rules, arith, length}
use Rattle.std.proofs.Common.{length-append}
use Rattle.std.specs.Prelude.{codes, None}
use Rattle.std.specs.declared.option.Option.{Option}
use Rattle.std.specs.Io.KnownBytes.{Consumes}
use Rattle.std.proofs.KnownBytes.{Consumes-nil}
use Rattle.httparse.specs.Grammar.{ResponseHead, print_response, ReadsResponse, lf}
use Rattle.httparse.proofs.GrammarLemmas.{response_unique, ReadsResponse-append}
use Rattle.dm_heads.specs.declared.heads.HeadKind.TheVariants as kind
use Rattle.dm_heads.specs.Messages.{HasHead, HasNoHead, MayBecomeHead}
use Rattle.dm_heads.specs.Asking.{Wants, Asked, AskedUnsettled}

-- a head that can follow
shortest : ResponseHead
shortest = record { blank = []; minor = 1; digits = codes "200"; reason = None; line_end = lf; fields = []; last = lf }

shortest_text : List ℕ
shortest_text = codes "HTTP/1.1 200" ++ 10 ∷ 10 ∷ []

shortest_is_read : ReadsResponse shortest_text shortest []
unfolding shortest shortest_text print_response
shortest_is_read = (record { minor = omega arith; digits = (refl, search rules); reason = search rules; fields = search rules }, refl)

no_head_yet : HasNoHead kind.Reply []
unfolding HasHead shortest_text
no_head_yet v rest o =
    let again = ReadsResponse-append [] o.0 rest shortest_text o.1 in
    let same = response_unique shortest_text o.0 shortest (rest ++ shortest_text) [] again shortest_is_read in
    let long = ap length same.1 in
    let both = length-append rest shortest_text in
    omega (arith, long, both)

may_come : MayBecomeHead kind.Reply []
unfolding MayBecomeHead
may_come = (shortest_text, shortest, shortest_is_read)

wants_all : Wants kind.Reply []
wants_all = inl (omega arith, no_head_yet, may_come)

-- a source that is as it was has been asked for nothing that wasn't wanted
pub unasked : (old new : Option (List ℕ)) → new ≡ old → AskedUnsettled kind.Reply old new
unasked old new same = ([], subst (λ left. Consumes old left []) (sym same) (Consumes-nil old), wants_all)

pub untaken : (old new : Option (List ℕ)) → new ≡ old → Asked kind.Reply old new
untaken old new same =
    ([], subst (λ left. Consumes old left []) (sym same) (Consumes-nil old), ([], [], refl, omega arith, inl refl))
