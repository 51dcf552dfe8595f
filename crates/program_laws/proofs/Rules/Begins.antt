-- Where the body of an action begins: its parameters are visible by their places, and its names differ.
use Rattle.std.proofs.Common.{◌≡◌, ◌+◌, ◌≤◌, ◌∷◌, ◌++◌, if◌then◌else◌}
use Rattle.program_laws.proofs.Common.{ℕ, suc, min, length, map, List, [], Some, Bool, true, false, is_some, Option, refl, ap, sym, subst, ◌∙◌, arith, append_assoc, AllByRecursion, bytes_eq, or_parts, or_from, Shape, Program, Site, Held, Visible, visible_at, Seen, GlobalHead, ParamHead, Table, global_seen, globals_after, params_from, param_wants, SeesName, is_barred, short}
use Rattle.typed_program.specs.Rules.{params_from as params_visible}
use Rattle.type_table.specs.Scopes.{param_seen, place_in, with_global}
use Rattle.expr_rules.specs.Places.{is_global as is_global_name}
use Rattle.program_laws.proofs.Rules.Lookups.{Differ, is_there, names_of, names_append, any_last, differ_more, not_seen, not_there, bytes_swap, Below, below_more, below_both, found_behind, found_here}
use Rattle.program_laws.proofs.Rules.ParamNames.{ParamsApart, param_names, global_names}
use Rattle.program_laws.proofs.Rules.Sights.{Sees, global_same}
use Rattle.program_laws.proofs.Shapes.Bodies.{HeadsKnown, Acting, after_globals, wants_long, frame, start, start_is}
use Rattle.program_laws.proofs.Shapes.Lists.{all_append, all_of_same}

-- ---- parameters by number

params_below : (n : ℕ) (shapes : List Shape) → Below (n + length shapes) (params_visible n shapes)
params_below n [] = tt
params_below n (s ∷ shapes) = (omega arith, below_more (suc n + length shapes) (n + length (s ∷ shapes)) (params_visible (suc n) shapes) (omega arith) (params_below (suc n) shapes))

params_seen : (n m : ℕ) (ps : List ParamHead) (shapes : List Shape) (front : List Visible) → m ≡ n → n + length ps ≤ 65535 → param_wants ps ≡ map (λ s. Some s) shapes → Below n front → AllByRecursion (SeesName (front ++ params_visible n shapes)) (params_from m ps)
params_seen n m [] shapes front e few is below = tt
params_seen n m (p ∷ ps) [] front e few is below = cc
params_seen n m (p ∷ ps) (s ∷ shapes) front e few is below =
    let y : Visible = record { number = n; kind = Held } in
    let number : min 65535 m ≡ n = omega (arith, e) in
    let rest : param_wants ps ≡ map (λ s. Some s) shapes = cc in
    let here : SeesName (front ++ y ∷ params_visible (suc n) shapes) (param_seen m p) = record {
      at = y;
      is_at = ap (visible_at (front ++ y ∷ params_visible (suc n) shapes)) number ∙ found_behind n front (y ∷ params_visible (suc n) shapes) below ∙ found_here n y (params_visible (suc n) shapes) refl;
      kind = refl;
      refers = refl;
    } in (
      here,
      subst (λ (vs : List Visible). AllByRecursion (SeesName vs) (params_from (m + 1) ps)) (append_assoc front (y ∷ []) (params_visible (suc n) shapes))
          (params_seen (suc n) (m + 1) ps shapes (front ++ y ∷ []) (omega (arith, e)) (omega arith) rest (below_both (suc n) front (y ∷ []) (below_more n (suc n) front (omega arith) below) (omega arith, tt))),
    )

params_called : (n : ℕ) (ps : List ParamHead) → names_of (params_from n ps) ≡ param_names ps
params_called n [] = refl
params_called n (p ∷ ps) = ap (λ (ns : List (List ℕ)). p.name ∷ ns) (params_called (n + 1) ps)

-- ---- names of globals

global_differ : (seens : List Seen) (n : ℕ) (g : GlobalHead) → Differ (names_of seens) → Differ (names_of (with_global seens n g))
global_differ seens n g h = by (is_some (place_in seens g.name)) refl
  where
    by : (b : Bool) → is_some (place_in seens g.name) ≡ b → Differ (names_of (if b then seens else seens ++ global_seen n g ∷ []))
    by true is = h
    by false is = subst Differ (sym (names_append seens (global_seen n g ∷ []))) (differ_more (names_of seens) g.name h (not_there seens g.name (not_seen (record { monitor = 0; actions = true; names = seens }) g.name is)))

globals_differ : (seens : List Seen) (n : ℕ) (gs : List GlobalHead) → Differ (names_of seens) → Differ (names_of (globals_after seens n gs))
globals_differ seens n [] h = h
globals_differ seens n (g ∷ gs) h = globals_differ (with_global seens n g) (n + 1) gs (global_differ seens n g h)

global_there : (seens : List Seen) (n : ℕ) (g : GlobalHead) (name : List ℕ) → is_there name (names_of seens) ≡ false → bytes_eq g.name name ≡ false → is_there name (names_of (with_global seens n g)) ≡ false
global_there seens n g name h k = by (is_some (place_in seens g.name))
  where
    by : (b : Bool) → is_there name (names_of (if b then seens else seens ++ global_seen n g ∷ [])) ≡ false
    by true = h
    by false = ap (is_there name) (names_append seens (global_seen n g ∷ [])) ∙ any_last (names_of seens) g.name name h k

globals_there : (seens : List Seen) (n : ℕ) (gs : List GlobalHead) (name : List ℕ) → is_there name (names_of seens) ≡ false → is_there name (global_names gs) ≡ false → is_there name (names_of (globals_after seens n gs)) ≡ false
globals_there seens n [] name h k = h
globals_there seens n (g ∷ gs) name h k = let p = or_parts (bytes_eq g.name name) (is_there name (global_names gs)) k in globals_there (with_global seens n g) (n + 1) gs name (global_there seens n g name h p.0) p.1

there_both : (n : List ℕ) (ms bs : List (List ℕ)) → is_there n ms ≡ false → AllByRecursion (λ b. bytes_eq b n ≡ false) bs → is_there n (ms ++ bs) ≡ false
there_both n [] [] h k = refl
there_both n [] (b ∷ bs) h k = or_from (bytes_eq b n) (is_there n bs) k.0 (there_both n [] bs refl k.1)
there_both n (a ∷ ms) bs h k = let p = or_parts (bytes_eq a n) (is_there n ms) h in or_from (bytes_eq a n) (is_there n (ms ++ bs)) p.0 (there_both n ms bs p.1 k)

differ_both : (ms bs : List (List ℕ)) → Differ ms → Differ bs → AllByRecursion (λ b. is_there b ms ≡ false) bs → Differ (ms ++ bs)
differ_both [] bs h k free = k
differ_both (a ∷ ms) bs h k free = (
  there_both a ms bs h.0 (all_of_same bs (λ b f. bytes_swap a b (or_parts (bytes_eq a b) (is_there b ms) f).0) free),
  differ_both ms bs h.1 k (all_of_same bs (λ b f. (or_parts (bytes_eq a b) (is_there b ms) f).1) free),
)

-- ---- the body

module _ (program : Program) (table : Table) (monitor : ℕ) (known : HeadsKnown program table monitor) (place : ℕ) (params : List Shape) (result : Option Shape) (acting : Acting program table monitor known place params result) where
  -- the parameters are visible there
  pub start_sees : ParamsApart acting.head.params known.head.globals → (sites : List Site) → Sees (frame program table monitor known place params result acting) 0 (params_visible 0 params) (start program table monitor known place params result acting sites)
  start_sees apart sites =
      let few = acting.few in
      let long = wants_long acting.head.params params acting.wants in
      let globals : List Seen = globals_after [] 0 known.head.globals in
      let own : List Seen = params_from 0 acting.head.params in
      record {
        seen = subst (λ xs. AllByRecursion (λ x. true ≡ true → is_global_name x.kind ≡ false → is_barred x ≡ false → SeesName (params_visible 0 params) x) xs) (sym (start_is program table monitor known place params result acting))
            (all_append (λ x. true ≡ true → is_global_name x.kind ≡ false → is_barred x ≡ false → SeesName (params_visible 0 params) x) globals own
            (all_of_same globals (λ x is named other free. (let e : is_global_name x.kind ≡ true = global_same x.kind ∙ is in cc)) (after_globals [] 0 known.head.globals tt))
            (all_of_same own (λ x h named other free. h) (params_seen 0 0 acting.head.params params [] refl (omega (arith, long)) acting.wants tt)));
        below = below_more (0 + length params) (short (length params)) (params_visible 0 params) (omega arith) (params_below 0 params);
        differ = subst (λ xs. Differ (names_of xs)) (sym (start_is program table monitor known place params result acting))
            (subst Differ (sym (names_append globals own))
            (differ_both (names_of globals) (names_of own) (globals_differ [] 0 known.head.globals tt)
            (subst Differ (sym (params_called 0 acting.head.params)) apart.differ)
            (subst (λ (ns : List (List ℕ)). AllByRecursion (λ n. is_there n (names_of globals) ≡ false) ns) (sym (params_called 0 acting.head.params))
            (all_of_same (param_names acting.head.params) (λ n f. globals_there [] 0 known.head.globals n refl f) apart.free))));
        from = omega arith;
      }
