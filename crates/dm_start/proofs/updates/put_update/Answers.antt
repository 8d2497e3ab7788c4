use Rattle.std.proofs.Common.{◌∷◌, ◌++◌, [], refl, ap, ◌∙◌, append_assoc}
use Rattle.std.proofs.lemmas.Result.{err_from_is_err_and}
use Rattle.std.specs.Prelude.{codes}
use Rattle.dm_start.specs.Growing.{update_part}
use Rattle.dm_start.proofs.Laid.{begins, goes_on, stops, goes_out}
use Rattle.dm_start.proofs.updates.put_update.Goals as goal

pub returns-in_err-put_leaf-clause-back : goal.returns-in_err-put_leaf-clause-back
returns-in_err-put_leaf-clause-back c = λ m h. c.put_leaf.ensures.back m (c.put_interior.ensures.back m h)

pub returns-in_err-put_leaf-2-clause-said : goal.returns-in_err-put_leaf-2-clause-said
returns-in_err-put_leaf-2-clause-said c =
    let on0 = begins c.args.tree.now (update_part c.args.path.now) in
    let on1 = goes_on on0 c.put_interior.new.tree _ refl c.in_ok-put_interior.ensures.added in
    let on2 = goes_on on1 c.put_leaf.new.tree _ refl c.in_ok-put_leaf.ensures.added in
    let p = err_from_is_err_and c.from_residual-in_err-put_leaf-2.result c.from_residual-in_err-put_leaf-2.ensures.1 in
    rw (p.1, p.2) (stops on2 _ c.in_err-put_leaf-2.field-0.0 refl c.in_err-put_leaf-2.ensures.added.0)

pub returns-in_err-put_leaf-2-clause-back : goal.returns-in_err-put_leaf-2-clause-back
returns-in_err-put_leaf-2-clause-back c =
    λ m h. c.put_leaf-2.ensures.back m (c.put_leaf.ensures.back m (c.put_interior.ensures.back m h))

pub returns-in_err-update-clause-said : goal.returns-in_err-update-clause-said
returns-in_err-update-clause-said c =
    let on0 = begins c.args.tree.now (update_part c.args.path.now) in
    let on1 = goes_on on0 c.put_interior.new.tree _ refl c.in_ok-put_interior.ensures.added in
    let on2 = goes_on on1 c.put_leaf.new.tree _ refl c.in_ok-put_leaf.ensures.added in
    let on3 = goes_on on2 c.put_leaf-2.new.tree _ refl c.in_ok-put_leaf-2.ensures.added in
    let p = err_from_is_err_and c.from_residual-in_err-update.result c.from_residual-in_err-update.ensures.1 in
    rw (p.1, p.2) (goes_out on3 c.in_err-update.field-0.0 c.in_err-update.ensures)

pub returns-in_err-put_interior-2-clause-said : goal.returns-in_err-put_interior-2-clause-said
returns-in_err-put_interior-2-clause-said c =
    let on0 = begins c.args.tree.now (update_part c.args.path.now) in
    let on1 = goes_on on0 c.put_interior.new.tree _ refl c.in_ok-put_interior.ensures.added in
    let on2 = goes_on on1 c.put_leaf.new.tree _ refl c.in_ok-put_leaf.ensures.added in
    let on3 = goes_on on2 c.put_leaf-2.new.tree _ refl c.in_ok-put_leaf-2.ensures.added in
    let p = err_from_is_err_and c.from_residual-in_err-put_interior-2.result
    c.from_residual-in_err-put_interior-2.ensures.1 in
    rw (p.1, p.2)
    (stops on3 _ c.in_err-put_interior-2.field-0.0 c.in_ok-update.ensures.0 c.in_err-put_interior-2.ensures.added.0)

pub returns-in_err-put_interior-2-clause-back : goal.returns-in_err-put_interior-2-clause-back
returns-in_err-put_interior-2-clause-back c =
    λ m h. c.put_interior-2.ensures.back m
    (c.put_leaf-2.ensures.back m (c.put_leaf.ensures.back m (c.put_interior.ensures.back m h)))

pub returns-in_err-put_leaf-3-clause-said : goal.returns-in_err-put_leaf-3-clause-said
returns-in_err-put_leaf-3-clause-said c =
    let on0 = begins c.args.tree.now (update_part c.args.path.now) in
    let on1 = goes_on on0 c.put_interior.new.tree _ refl c.in_ok-put_interior.ensures.added in
    let on2 = goes_on on1 c.put_leaf.new.tree _ refl c.in_ok-put_leaf.ensures.added in
    let on3 = goes_on on2 c.put_leaf-2.new.tree _ refl c.in_ok-put_leaf-2.ensures.added in
    let on4 = goes_on on3 c.put_interior-2.new.tree _ c.in_ok-update.ensures.0 c.in_ok-put_interior-2.ensures.added in
    let longer = ap (λ q. q ++ codes "PkgData" ∷ []) c.in_ok-update.ensures.0
    ∙ append_assoc c.args.path.now (codes "Update" ∷ []) (codes "PkgData" ∷ []) in
    let p = err_from_is_err_and c.from_residual-in_err-put_leaf-3.result c.from_residual-in_err-put_leaf-3.ensures.1 in
    rw (p.1, p.2) (stops on4 _ c.in_err-put_leaf-3.field-0.0 longer c.in_err-put_leaf-3.ensures.added.0)

pub returns-in_err-put_leaf-3-clause-back : goal.returns-in_err-put_leaf-3-clause-back
returns-in_err-put_leaf-3-clause-back c =
    λ m h. c.put_leaf-3.ensures.back m
    (c.put_interior-2.ensures.back m
    (c.put_leaf-2.ensures.back m (c.put_leaf.ensures.back m (c.put_interior.ensures.back m h))))

pub returns-in_err-put_leaf-4-clause-said : goal.returns-in_err-put_leaf-4-clause-said
returns-in_err-put_leaf-4-clause-said c =
    let on0 = begins c.args.tree.now (update_part c.args.path.now) in
    let on1 = goes_on on0 c.put_interior.new.tree _ refl c.in_ok-put_interior.ensures.added in
    let on2 = goes_on on1 c.put_leaf.new.tree _ refl c.in_ok-put_leaf.ensures.added in
    let on3 = goes_on on2 c.put_leaf-2.new.tree _ refl c.in_ok-put_leaf-2.ensures.added in
    let on4 = goes_on on3 c.put_interior-2.new.tree _ c.in_ok-update.ensures.0 c.in_ok-put_interior-2.ensures.added in
    let longer = ap (λ q. q ++ codes "PkgData" ∷ []) c.in_ok-update.ensures.0
    ∙ append_assoc c.args.path.now (codes "Update" ∷ []) (codes "PkgData" ∷ []) in
    let on5 = goes_on on4 c.put_leaf-3.new.tree _ longer c.in_ok-put_leaf-3.ensures.added in
    let p = err_from_is_err_and c.from_residual-in_err-put_leaf-4.result c.from_residual-in_err-put_leaf-4.ensures.1 in
    rw (p.1, p.2) (stops on5 _ c.in_err-put_leaf-4.field-0.0 refl c.in_err-put_leaf-4.ensures.added.0)

pub returns-in_err-put_leaf-4-clause-back : goal.returns-in_err-put_leaf-4-clause-back
returns-in_err-put_leaf-4-clause-back c =
    λ m h. c.put_leaf-4.ensures.back m
    (c.put_leaf-3.ensures.back m
    (c.put_interior-2.ensures.back m
    (c.put_leaf-2.ensures.back m (c.put_leaf.ensures.back m (c.put_interior.ensures.back m h)))))

pub returns-clause-said : goal.returns-clause-said
returns-clause-said c =
    let on0 = begins c.args.tree.now (update_part c.args.path.now) in
    let on1 = goes_on on0 c.put_interior.new.tree _ refl c.in_ok-put_interior.ensures.added in
    let on2 = goes_on on1 c.put_leaf.new.tree _ refl c.in_ok-put_leaf.ensures.added in
    let on3 = goes_on on2 c.put_leaf-2.new.tree _ refl c.in_ok-put_leaf-2.ensures.added in
    let on4 = goes_on on3 c.put_interior-2.new.tree _ c.in_ok-update.ensures.0 c.in_ok-put_interior-2.ensures.added in
    let longer = ap (λ q. q ++ codes "PkgData" ∷ []) c.in_ok-update.ensures.0
    ∙ append_assoc c.args.path.now (codes "Update" ∷ []) (codes "PkgData" ∷ []) in
    let on5 = goes_on on4 c.put_leaf-3.new.tree _ longer c.in_ok-put_leaf-3.ensures.added in
    let on6 = goes_on on5 c.put_leaf-4.new.tree _ refl c.in_ok-put_leaf-4.ensures.added in
    on6.rest_is

pub returns-clause-back : goal.returns-clause-back
returns-clause-back c =
    λ m h. c.put_leaf-4.ensures.back m
    (c.put_leaf-3.ensures.back m
    (c.put_interior-2.ensures.back m
    (c.put_leaf-2.ensures.back m (c.put_leaf.ensures.back m (c.put_interior.ensures.back m h)))))

-- ---- nothing is left over

pub returns-in_err-put_leaf-clause-parked : goal.returns-in_err-put_leaf-clause-parked
returns-in_err-put_leaf-clause-parked c =
    λ none. c.in_err-put_leaf.ensures.added.1.parked
    (c.in_ok-put_interior.ensures.added.1.1 none)

pub returns-in_err-put_leaf-2-clause-parked : goal.returns-in_err-put_leaf-2-clause-parked
returns-in_err-put_leaf-2-clause-parked c =
    λ none. c.in_err-put_leaf-2.ensures.added.1.parked
    (c.in_ok-put_leaf.ensures.added.1.1 (c.in_ok-put_interior.ensures.added.1.1 none))

pub returns-in_err-put_interior-2-clause-parked : goal.returns-in_err-put_interior-2-clause-parked
returns-in_err-put_interior-2-clause-parked c =
    λ none. c.in_err-put_interior-2.ensures.added.1.parked
    (c.in_ok-put_leaf-2.ensures.added.1.1
    (c.in_ok-put_leaf.ensures.added.1.1 (c.in_ok-put_interior.ensures.added.1.1 none)))

pub returns-in_err-put_leaf-3-clause-parked : goal.returns-in_err-put_leaf-3-clause-parked
returns-in_err-put_leaf-3-clause-parked c =
    λ none. c.in_err-put_leaf-3.ensures.added.1.parked
    (c.in_ok-put_interior-2.ensures.added.1.1
    (c.in_ok-put_leaf-2.ensures.added.1.1
    (c.in_ok-put_leaf.ensures.added.1.1 (c.in_ok-put_interior.ensures.added.1.1 none))))

pub returns-in_err-put_leaf-4-clause-parked : goal.returns-in_err-put_leaf-4-clause-parked
returns-in_err-put_leaf-4-clause-parked c =
    λ none. c.in_err-put_leaf-4.ensures.added.1.parked
    (c.in_ok-put_leaf-3.ensures.added.1.1
    (c.in_ok-put_interior-2.ensures.added.1.1
    (c.in_ok-put_leaf-2.ensures.added.1.1
    (c.in_ok-put_leaf.ensures.added.1.1 (c.in_ok-put_interior.ensures.added.1.1 none)))))

pub returns-in_err-update-clause-parked : goal.returns-in_err-update-clause-parked
returns-in_err-update-clause-parked c =
    λ none. c.in_ok-put_leaf-2.ensures.added.1.1
    (c.in_ok-put_leaf.ensures.added.1.1 (c.in_ok-put_interior.ensures.added.1.1 none))

pub returns-clause-parked : goal.returns-clause-parked
returns-clause-parked c =
    λ none. c.in_ok-put_leaf-4.ensures.added.1.1
    (c.in_ok-put_leaf-3.ensures.added.1.1
    (c.in_ok-put_interior-2.ensures.added.1.1
    (c.in_ok-put_leaf-2.ensures.added.1.1
    (c.in_ok-put_leaf.ensures.added.1.1 (c.in_ok-put_interior.ensures.added.1.1 none)))))
