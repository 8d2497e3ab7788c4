-- The written form of a path, one name further down.
use Rattle.std.proofs.lemmas.Grind.{flat_map-append}
use Rattle.std.specs.List.{flat_map}
use Rattle.dm_uri.proofs.Printing.{slashed, printed_path-slashed}
use Rattle.dm_tree.proofs.Common.{◌≡◌, ◌<◌, ◌-◌, ℕ, List, [], ◌∷◌, ◌++◌, sym, ap, ◌∙◌, append-nil, append_assoc}
use Rattle.dm_tree.proofs.Common.{printed_path, Row, Path, row_at, path_up}
use Rattle.dm_tree.proofs.UpwardSearch.{path_up_one}

printed_more : (p : Path) (n : List ℕ) → printed_path (p ++ n ∷ []) ≡ printed_path p ++ 47 ∷ n
printed_more p n =
    sym (printed_path-slashed (p ++ n ∷ [])) ∙ ap (λ rest. 46 ∷ rest) (flat_map-append slashed p (n ∷ []))
    ∙ ap (λ rest. 46 ∷ (flat_map slashed p ++ rest)) (append-nil (47 ∷ n))
    ∙ ap (λ front. front ++ 47 ∷ n) (printed_path-slashed p)

-- the path of the row above, a slash and the row's name came behind what stood there
pub printed_up : (rows : List Row) (d k : ℕ) (r : Row) (out upper slashed all name : List ℕ) → 0 < d
    → r ≡ row_at rows k → name ≡ r.name → upper ≡ out ++ printed_path (path_up rows (d - 1) r.parent)
    → slashed ≡ upper ++ 47 ∷ [] → all ≡ slashed ++ name → all ≡ out ++ printed_path (path_up rows d k)
printed_up rows d k r out upper slashed all name some is named first then_ last =
    let p = path_up rows (d - 1) r.parent in
    last ∙ ap (λ l. l ++ name) (then_ ∙ ap (λ l. l ++ 47 ∷ []) first)
    ∙ append_assoc (out ++ printed_path p) (47 ∷ []) name ∙ append_assoc out (printed_path p) (47 ∷ name)
    ∙ ap (λ l. out ++ l) (sym (printed_more p name))
    ∙ ap (λ n. out ++ printed_path (p ++ n ∷ [])) named
    ∙ ap (λ (s : Row). out ++ printed_path (path_up rows (d - 1) s.parent ++ s.name ∷ [])) is
    ∙ ap (λ q. out ++ printed_path q) (sym (path_up_one rows d k some))
