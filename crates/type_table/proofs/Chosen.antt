-- Event types put together.
use Rattle.std.proofs.Common.{◌≡◌, ℕ, List, [], ◌∷◌, ◌++◌, map, ◌+◌, ◌<◌, length, drop, get_or, add-one, drop-cons, refl, sym, ap, ap₂, ◌∙◌, Bor}
use Rattle.epl_tree.specs.declared.unit.Unit.{Unit as File}
use Rattle.epl_tree.specs.declared.unit.EventDecl.{EventDecl}
use Rattle.epl_tree.specs.declared.unit.Declaration.{Declaration}
use Rattle.type_table.specs.Kinds.{names_of, trees, kind_step, kinds_after, declarations_of}
use Rattle.type_table.proofs.Places.{map-append}

pub kinds_append : (kinds : List EventDecl) (a b : List Declaration) → kinds_after kinds (a ++ b) ≡ kinds_after (kinds_after kinds a) b
kinds_append kinds [] b = refl
kinds_append kinds (d ∷ a) b = kinds_append (kind_step kinds d) a b

pub trees_append : (rs : List (Bor EventDecl)) (r : Bor EventDecl) → trees (rs ++ r ∷ []) ≡ trees rs ++ r.now ∷ []
trees_append rs r = map-append (λ (q : Bor EventDecl). q.now) rs (r ∷ [])

pub names_append : (es : List EventDecl) (e : EventDecl) → names_of (es ++ e ∷ []) ≡ names_of es ++ e.name.text ∷ []
names_append es e = map-append (λ (d : EventDecl). d.name.text) es (e ∷ [])

-- the event types from a file on are its own and those from the next on
pub kinds_left : (kinds : List EventDecl) (units : List File) (i : ℕ) (u : File) → i < length units → u ≡ get_or units i u → kinds_after (kinds_after kinds u.declarations) (declarations_of (drop (i + 1) units)) ≡ kinds_after kinds (declarations_of (drop i units))
kinds_left kinds units i u h is =
    let here : drop i units ≡ u ∷ drop (i + 1) units = drop-cons units i u h ∙ ap₂ (λ x n. x ∷ drop n units) (sym is) (sym (add-one i)) in
    sym (kinds_append kinds u.declarations (declarations_of (drop (i + 1) units)))
    ∙ sym (ap (λ us. kinds_after kinds (declarations_of us)) here)
