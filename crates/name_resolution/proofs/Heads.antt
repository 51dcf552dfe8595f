-- What the table tells of a monitor is what its declaration is, and where the body of one of its actions begins.
use Rattle.std.proofs.Common.{◌≡◌, ℕ, suc, ◌+◌, Bool, true, false, cond, if◌then◌else◌, not, is_some, List, [], ◌∷◌, ◌++◌, map, length, Option, Some, None, refl, sym, ap, subst, ◌∙◌, nat_lt, position, arith}
use Rattle.std.specs.List.{position_or_len}
use Rattle.std.specs.Option.{option_map}
use Rattle.std.specs.Str.{bytes_eq}
use Rattle.std.proofs.lemmas.Slice.Eq.{bytes_eq-Decides}
use Rattle.epl_values.specs.declared.shape.Shape.{Shape}
use Rattle.epl_tree.specs.declared.unit.ActionDecl.{ActionDecl}
use Rattle.epl_tree.specs.declared.unit.Member.{Member}
use Rattle.epl_tree.specs.declared.unit.Member.TheVariants as member
use Rattle.epl_tree.specs.declared.unit.Param.{Param}
use Rattle.typed_program.specs.declared.program.Global.{Global}
use Rattle.typed_program.specs.declared.statement.Variable.TheVariants as var
use Rattle.type_table.specs.declared.scope.Seen.{Seen}
use Rattle.type_table.specs.declared.table.ActionHead.{ActionHead}
use Rattle.type_table.specs.declared.table.GlobalHead.{GlobalHead}
use Rattle.type_table.specs.declared.table.ParamHead.{ParamHead}
use Rattle.type_table.specs.Heads.{action_head, actions_from}
use Rattle.type_table.specs.Scopes.{global_seen, place_in, with_global, globals_after, params_from}
use Rattle.expr_rules.specs.Names.{item_at}
use Rattle.name_resolution.specs.Names.{Named, Meant, meaning_of, place_of, held}
use Rattle.name_resolution.proofs.Seeing.{ActionIs, meant_by}
use Rattle.name_resolution.specs.Units.{actions_in, names_of, global_names, param_names}
use Rattle.name_resolution.proofs.Claims.{is_called, first_by, by_seen, meaning_mapped, meaning_behind, or_else, item_first, zero_lt, lt_more}

-- ---- the place of the first

place_here : (b : Bool) (k n : ℕ) → cond (nat_lt (cond (not b) (1 + k) 0) (suc n)) (Some (cond (not b) (1 + k) 0)) None ≡ cond b (Some 0) (option_map (λ m. 1 + m) (cond (nat_lt k n) (Some k) None))
place_here true k n = ap (λ (c : Bool). cond c (Some 0) None) (zero_lt n)
place_here false k n = ap (λ (c : Bool). cond c (Some (1 + k)) None) (lt_more k n) ∙ by (nat_lt k n)
  where
    by : (c : Bool) → cond c (Some (1 + k)) None ≡ option_map (λ m. 1 + m) (cond c (Some k) None)
    by true = refl
    by false = refl

-- the place of the first is none, or one behind that among the others
pub place_step : {A : Type 0} (q : A → Bool) (x : A) (xs : List A) → position q (x ∷ xs) ≡ cond (q x) (Some 0) (option_map (λ m. 1 + m) (position q xs))
place_step q x xs = place_here (q x) (position_or_len q xs) (length xs)

some_by : {A : Type 0} (b : Bool) (x : A) (o : Option ℕ) (r : Option A) → is_some o ≡ is_some r → is_some (cond b (Some 0) (option_map (λ m. 1 + m) o)) ≡ is_some (cond b (Some x) r)
some_by true x o r h = refl
some_by false x None r h = h
some_by false x (Some n) r h = h

pub place_some : {A : Type 0} (q : A → Bool) (xs : List A) → is_some (position q xs) ≡ is_some (first_by q xs)
place_some q [] = refl
place_some q (x ∷ xs) = ap is_some (place_step q x xs) ∙ some_by (q x) x (position q xs) (first_by q xs) (place_some q xs)

-- ---- actions

-- an action by its place among those of a monitor
record Placed (names : List (List ℕ)) (name : List ℕ) (first : ℕ) (o : Option ActionHead) : Type 0 where
  placed : (h : ActionHead) → o ≡ Some h → ActionIs names first name h

pub none_some : {A : Type 0} (x : A) → None ≡ Some x → ⊥
none_some x h = cc

module _ (number_of : List ℕ → Option ℕ) where
  action_by : (name : List ℕ) (first : ℕ) (a : ActionDecl) (ms : List Member) (b : Bool) → bytes_eq a.name.text name ≡ b → (h : ActionHead) → cond b (Some (action_head number_of first a)) (first_by (λ (x : ActionHead). bytes_eq x.name name) (actions_from number_of (first + 1) ms)) ≡ Some h
      → ((k : ActionHead) → first_by (λ (x : ActionHead). bytes_eq x.name name) (actions_from number_of (first + 1) ms) ≡ Some k → ActionIs (names_of (actions_in ms)) (first + 1) name k) → ActionIs (a.name.text ∷ names_of (actions_in ms)) first name h
  action_by name first a ms true is h found rest =
      let e : action_head number_of first a ≡ h = cc in
      record {
        place = 0;
        there = place_step (λ n. bytes_eq n name) a.name.text (names_of (actions_in ms)) ∙ ap (λ (b : Bool). cond b (Some 0) (option_map (λ m. 1 + m) (position (λ n. bytes_eq n name) (names_of (actions_in ms))))) is;
        number = ap (λ (x : ActionHead). x.number) (sym e) ∙ (let z : first ≡ first + 0 = omega arith in ap held z);
      }
  action_by name first a ms false is h found rest =
      let r = rest h found in
      record {
        place = 1 + r.place;
        there = place_step (λ n. bytes_eq n name) a.name.text (names_of (actions_in ms)) ∙ ap (λ (b : Bool). cond b (Some 0) (option_map (λ m. 1 + m) (position (λ n. bytes_eq n name) (names_of (actions_in ms))))) is ∙ ap (λ (o : Option ℕ). option_map (λ m. 1 + m) o) r.there;
        number = r.number ∙ (let z : first + 1 + r.place ≡ first + (1 + r.place) = omega arith in ap held z);
      }

  action_first : (name : List ℕ) (first : ℕ) (ms : List Member) (h : ActionHead) → first_by (λ (x : ActionHead). bytes_eq x.name name) (actions_from number_of first ms) ≡ Some h → ActionIs (names_of (actions_in ms)) first name h
  action_first name first [] h found = absurd (none_some h found)
  action_first name first (member.Global g ∷ ms) h found = action_first name first ms h found
  action_first name first (member.Action a ∷ ms) h found = action_by name first a ms (bytes_eq a.name.text name) refl h found (λ k f. action_first name (first + 1) ms k f)

  pub action_is : (name : List ℕ) (first : ℕ) (ms : List Member) (h : ActionHead) → item_at (actions_from number_of first ms) (position (λ (x : ActionHead). bytes_eq x.name name) (actions_from number_of first ms)) ≡ Some h → ActionIs (names_of (actions_in ms)) first name h
  action_is name first ms h found = action_first name first ms h (sym (item_first (λ (x : ActionHead). bytes_eq x.name name) (actions_from number_of first ms)) ∙ found)

  -- one that isn't there has no place
  none_by : (name : List ℕ) (a : ActionDecl) (ms : List Member) (first : ℕ) (b : Bool) → bytes_eq a.name.text name ≡ b → cond b (Some (action_head number_of first a)) (first_by (λ (x : ActionHead). bytes_eq x.name name) (actions_from number_of (first + 1) ms)) ≡ None → (first_by (λ (x : ActionHead). bytes_eq x.name name) (actions_from number_of (first + 1) ms) ≡ None → place_of (names_of (actions_in ms)) name ≡ None) → place_of (a.name.text ∷ names_of (actions_in ms)) name ≡ None
  none_by name a ms first true is found rest = absurd (none_some (action_head number_of first a) (sym found))
  none_by name a ms first false is found rest = place_step (λ n. bytes_eq n name) a.name.text (names_of (actions_in ms)) ∙ ap (λ (b : Bool). cond b (Some 0) (option_map (λ m. 1 + m) (position (λ n. bytes_eq n name) (names_of (actions_in ms))))) is ∙ ap (λ (o : Option ℕ). option_map (λ m. 1 + m) o) (rest found)

  none_first : (name : List ℕ) (first : ℕ) (ms : List Member) → first_by (λ (x : ActionHead). bytes_eq x.name name) (actions_from number_of first ms) ≡ None → place_of (names_of (actions_in ms)) name ≡ None
  none_first name first [] found = refl
  none_first name first (member.Global g ∷ ms) found = none_first name first ms found
  none_first name first (member.Action a ∷ ms) found = none_by name a ms first (bytes_eq a.name.text name) refl found (λ f. none_first name (first + 1) ms f)

  pub action_none : (name : List ℕ) (first : ℕ) (ms : List Member) → item_at (actions_from number_of first ms) (position (λ (x : ActionHead). bytes_eq x.name name) (actions_from number_of first ms)) ≡ None → place_of (names_of (actions_in ms)) name ≡ None
  action_none name first ms found = none_first name first ms (sym (item_first (λ (x : ActionHead). bytes_eq x.name name) (actions_from number_of first ms)) ∙ found)

-- ---- globals

-- heads and the globals that were made for them
abbrev pub Heads : List GlobalHead → List Global → Type 0
Heads [] [] = Unit {0}
Heads (h ∷ hs) (g ∷ gs) = ((h.name ≡ g.name) × (h.shape ≡ Some g.shape)) × Heads hs gs
Heads hs gs = ⊥

some_meant : (o : Option Seen) → is_some o ≡ true → (m : Meant) × (option_map meant_by o ≡ Some m)
some_meant None h = absurd (cc)
some_meant (Some s) h = (meant_by s, refl)

named_one : (n : ℕ) (h : GlobalHead) (g : Global) → h.name ≡ g.name → h.shape ≡ Some g.shape → by_seen (global_seen n h) ≡ record { name = g.name; meant = record { variable = var.Global (held n); shape = Some g.shape } }
named_one n h g name shape = ap (λ (x : List ℕ). let r : Named = record { name = x; meant = record { variable = var.Global (held n); shape = h.shape } } in r) name ∙ ap (λ (x : Option Shape). let r : Named = record { name = g.name; meant = record { variable = var.Global (held n); shape = x } } in r) shape

-- a name that is there already hides the later one
hidden : (seens : List Seen) (later : Named) (rest : List Named) (name : List ℕ) (m : Meant) → meaning_of (map by_seen seens) later.name ≡ Some m → or_else (meaning_of (map by_seen seens) name) (meaning_of rest name) ≡ or_else (meaning_of (map by_seen seens) name) (meaning_of (later ∷ rest) name)
hidden seens later rest name m is = by (bytes_eq later.name name) refl
  where
    by : (b : Bool) → bytes_eq later.name name ≡ b → or_else (meaning_of (map by_seen seens) name) (meaning_of rest name) ≡ or_else (meaning_of (map by_seen seens) name) (cond b (Some later.meant) (meaning_of rest name))
    by false e = refl
    by true e =
        let same : later.name ≡ name = (bytes_eq-Decides later.name name).0 e in
        let there : meaning_of (map by_seen seens) name ≡ Some m = subst (λ (x : List ℕ). meaning_of (map by_seen seens) x ≡ Some m) same is in
        ap (λ (o : Option Meant). or_else o (meaning_of rest name)) there ∙ sym (ap (λ (o : Option Meant). or_else o (Some later.meant)) there)

else_assoc : (a b c : Option Meant) → or_else (or_else a b) c ≡ or_else a (or_else b c)
else_assoc (Some m) b c = refl
else_assoc None b c = refl

map_push : (xs : List Seen) (x : Seen) → map by_seen (xs ++ x ∷ []) ≡ map by_seen xs ++ by_seen x ∷ []
map_push [] x = refl
map_push (y ∷ xs) x = ap (λ (l : List Named). by_seen y ∷ l) (map_push xs x)

else_cond : (b : Bool) (m : Meant) (o : Option Meant) → or_else (cond b (Some m) None) o ≡ cond b (Some m) o
else_cond true m o = refl
else_cond false m o = refl

-- the globals that the checker sees, the first of each name, mean what all of them do
globals_mean : (seens : List Seen) (n : ℕ) (hs : List GlobalHead) (gs : List Global) → Heads hs gs → (name : List ℕ) → meaning_of (map by_seen (globals_after seens n hs)) name ≡ or_else (meaning_of (map by_seen seens) name) (meaning_of (global_names n gs) name)
globals_mean seens n [] [] heads name = by (meaning_of (map by_seen seens) name)
  where
    by : (o : Option Meant) → o ≡ or_else o None
    by (Some m) = refl
    by None = refl
globals_mean seens n [] (g ∷ gs) heads name = absurd heads
globals_mean seens n (h ∷ hs) [] heads name = absurd heads
globals_mean seens n (h ∷ hs) (g ∷ gs) heads name =
    globals_mean (with_global seens n h) (n + 1) hs gs heads.1 name
    ∙ by (is_some (place_in seens h.name)) refl
  where
    named : by_seen (global_seen n h) ≡ record { name = g.name; meant = record { variable = var.Global (held n); shape = Some g.shape } }
    named = named_one n h g heads.0.0 heads.0.1

    rest : List Named
    rest = global_names (n + 1) gs

    by : (b : Bool) → is_some (place_in seens h.name) ≡ b → or_else (meaning_of (map by_seen (if b then seens else seens ++ global_seen n h ∷ [])) name) (meaning_of (global_names (n + 1) gs) name) ≡ or_else (meaning_of (map by_seen seens) name) (meaning_of (global_names n (g ∷ gs)) name)
    by true is =
        let there = some_meant (first_by (is_called h.name) seens) (sym (place_some (is_called h.name) seens) ∙ is) in
        hidden seens (by_seen (global_seen n h)) (global_names (n + 1) gs) name there.0 (meaning_mapped seens h.name ∙ there.1)
        ∙ ap (λ (x : Named). or_else (meaning_of (map by_seen seens) name) (meaning_of (x ∷ global_names (n + 1) gs) name)) named
    by false is =
        ap (λ (l : List Named). or_else (meaning_of l name) (meaning_of (global_names (n + 1) gs) name)) (map_push seens (global_seen n h))
        ∙ ap (λ (o : Option Meant). or_else o (meaning_of (global_names (n + 1) gs) name)) (meaning_behind (map by_seen seens) (by_seen (global_seen n h) ∷ []) name)
        ∙ else_assoc (meaning_of (map by_seen seens) name) (meaning_of (by_seen (global_seen n h) ∷ []) name) (meaning_of (global_names (n + 1) gs) name)
        ∙ ap (λ (o : Option Meant). or_else (meaning_of (map by_seen seens) name) o) (else_cond (bytes_eq h.name name) (meant_by (global_seen n h)) (meaning_of (global_names (n + 1) gs) name))
        ∙ ap (λ (x : Named). or_else (meaning_of (map by_seen seens) name) (meaning_of (x ∷ global_names (n + 1) gs) name)) named

-- ---- parameters

-- parameters whose shapes are known
abbrev pub Shaped : List ParamHead → List Param → List Shape → Type 0
Shaped [] [] [] = Unit {0}
Shaped (h ∷ hs) (p ∷ ps) (s ∷ ss) = ((h.name ≡ p.name.text) × (h.shape ≡ Some s)) × Shaped hs ps ss
Shaped hs ps ss = ⊥

params_same : (n : ℕ) (hs : List ParamHead) (ps : List Param) (ss : List Shape) → Shaped hs ps ss → map by_seen (params_from n hs) ≡ param_names n ps ss
params_same n [] [] [] h = refl
params_same n [] [] (s ∷ ss) h = absurd h
params_same n [] (p ∷ ps) ss h = absurd h
params_same n (h ∷ hs) [] ss k = absurd k
params_same n (h ∷ hs) (p ∷ ps) [] k = absurd k
params_same n (h ∷ hs) (p ∷ ps) (s ∷ ss) k =
    ap (λ (x : List ℕ). let r : Named = record { name = x; meant = record { variable = var.Local (held n); shape = h.shape } } in r ∷ map by_seen (params_from (n + 1) hs)) k.0.0
    ∙ ap (λ (x : Option Shape). let r : Named = record { name = p.name.text; meant = record { variable = var.Local (held n); shape = x } } in r ∷ map by_seen (params_from (n + 1) hs)) k.0.1
    ∙ ap (λ (l : List Named). record { name = p.name.text; meant = record { variable = var.Local (held n); shape = Some s } } ∷ l) (params_same (n + 1) hs ps ss k.1)

map_both : (xs ys : List Seen) → map by_seen (xs ++ ys) ≡ map by_seen xs ++ map by_seen ys
map_both [] ys = refl
map_both (x ∷ xs) ys = ap (λ (l : List Named). by_seen x ∷ l) (map_both xs ys)

-- the names with which the body of an action begins
pub start_means : (hs : List GlobalHead) (gs : List Global) (ks : List ParamHead) (ps : List Param) (ss : List Shape) → Heads hs gs → Shaped ks ps ss → (name : List ℕ) → meaning_of (global_names 0 gs ++ param_names 0 ps ss) name ≡ option_map meant_by (first_by (is_called name) (globals_after [] 0 hs ++ params_from 0 ks))
start_means hs gs ks ps ss heads shaped name =
    meaning_behind (global_names 0 gs) (param_names 0 ps ss) name
    ∙ ap (λ (o : Option Meant). or_else o (meaning_of (param_names 0 ps ss) name)) (sym (globals_mean [] 0 hs gs heads name))
    ∙ ap (λ (l : List Named). or_else (meaning_of (map by_seen (globals_after [] 0 hs)) name) (meaning_of l name)) (sym (params_same 0 ks ps ss shaped))
    ∙ sym (meaning_behind (map by_seen (globals_after [] 0 hs)) (map by_seen (params_from 0 ks)) name)
    ∙ ap (λ (l : List Named). meaning_of l name) (sym (map_both (globals_after [] 0 hs) (params_from 0 ks)))
    ∙ meaning_mapped (globals_after [] 0 hs ++ params_from 0 ks) name
