-- The parameters of an action in which no fault is found: their names differ from one another and from those of globals.
use Rattle.std.proofs.Common.{◌≡◌, ◌∷◌, ◌++◌, ◌||◌}
use Rattle.program_laws.proofs.Common.{ℕ, map, List, [], false, length, nat_le, refl, ap, sym, subst, ◌∙◌, append_assoc, AllByRecursion, list_any, bytes_eq, or_parts, or_from, ActionDecl, Member, Param, GlobalHead, ParamHead, Table, told, param_head, globals_in, event_of, type_found, Made, is_param_named, is_global_named, param_codes, param_read, action_read, when}
use Rattle.epl_tree.specs.declared.unit.Member.TheVariants as member
use Rattle.stmt_check.specs.Actions.{is_global, params_found, action_codes}
use Rattle.stmt_check.specs.Steps.{◌>>=◌, pure, given, tells, changes, before_all, each}
use Rattle.program_laws.proofs.Rules.Lookups.{Differ, is_there, differ_more}
use Rattle.program_laws.proofs.Shapes.Lists.{no_both, no_told, no_when}

-- names of parameters as they are written
abbrev pub names_given : List Param → List (List ℕ)
names_given ps = map (λ p. p.name.text) ps

-- names of parameters and of globals
abbrev pub param_names : List ParamHead → List (List ℕ)
param_names ps = map (λ p. p.name) ps

-- names of globals
abbrev pub global_names : List GlobalHead → List (List ℕ)
global_names gs = map (λ g. g.name) gs

-- parameters whose names differ, and are no names of these globals
pub record ParamsApart (ps : List ParamHead) (gs : List GlobalHead) : Type 0 where
  pub differ : Differ (param_names ps)
  pub free : AllByRecursion (λ n. is_there n (global_names gs) ≡ false) (param_names ps)

given_append : (ps qs : List Param) → names_given (ps ++ qs) ≡ names_given ps ++ names_given qs
given_append [] qs = refl
given_append (p ∷ ps) qs = ap (λ (ns : List (List ℕ)). p.name.text ∷ ns) (given_append ps qs)

not_given : (ps : List Param) (name : List ℕ) → list_any (is_param_named name) ps ≡ false → is_there name (names_given ps) ≡ false
not_given [] name h = refl
not_given (p ∷ ps) name h = let q = or_parts (bytes_eq p.name.text name) (list_any (is_param_named name) ps) h in or_from (bytes_eq p.name.text name) (is_there name (names_given ps)) q.0 (not_given ps name q.1)

no_global : (table : Table) (ms : List Member) (name : List ℕ) → list_any (is_global_named name) ms ≡ false → is_there name (global_names (globals_in (event_of table) ms)) ≡ false
unfolding is_global
no_global table [] name h = refl
no_global table (member.Global g ∷ ms) name h = let q = or_parts (bytes_eq g.name.text name) (list_any (is_global_named name) ms) h in or_from (bytes_eq g.name.text name) (is_there name (global_names (globals_in (event_of table) ms))) q.0 (no_global table ms name q.1)
no_global table (member.Action a ∷ ms) name h = no_global table ms name h

module _ (table : Table) (members : List Member) where
  -- what no code says of a parameter
  record ParamFree (p : Param) (before : List Param) : Type 0 where
    apart : list_any (is_param_named p.name.text) before ≡ false
    global : list_any (is_global_named p.name.text) members ≡ false

  param_free : (p : Param) (before : List Param) → (param_read table members p before).faults ≡ [] → ParamFree p before
  unfolding ◌>>=◌ given tells changes
  param_free p before none =
      let a = no_both (type_found table p.shape).faults (told p.name.spot (param_codes members before p.name.text) ++ []) none in
      let b = no_both (told p.name.spot (param_codes members before p.name.text)) [] a.1 in
      let c = no_told p.name.spot (param_codes members before p.name.text) b.0 in
      let d = no_both (when (list_any (is_param_named p.name.text) before || list_any (is_global_named p.name.text) members) 1) (when (nat_le 64 (length before)) 4) c in
      let e = or_parts (list_any (is_param_named p.name.text) before) (list_any (is_global_named p.name.text) members) (no_when (list_any (is_param_named p.name.text) before || list_any (is_global_named p.name.text) members) 1 d.0) in
      record { apart = e.0; global = e.1 }

  param_state : (p : Param) (before : List Param) → (param_read table members p before).part.state ≡ before ++ p ∷ []
  unfolding ◌>>=◌ given tells changes
  param_state p before = refl

  each_free : (ps before : List Param) → (each (map (param_read table members) ps) before).faults ≡ [] → Differ (names_given before) → Differ (names_given (before ++ ps)) × AllByRecursion (λ (p : Param). list_any (is_global_named p.name.text) members ≡ false) ps
  unfolding each before_all pure ◌>>=◌
  each_free [] before none h = (subst (λ (ps : List Param). Differ (names_given ps)) (plus before) h, tt)
    where
      plus : (ps : List Param) → ps ≡ ps ++ []
      plus [] = refl
      plus (p ∷ ps) = ap (λ (qs : List Param). p ∷ qs) (plus ps)
  each_free (p ∷ ps) before none h =
      let split = no_both (param_read table members p before).faults (each (map (param_read table members) ps) (param_read table members p before).part.state).faults none in
      let free = param_free p before split.0 in
      let more : Differ (names_given (before ++ p ∷ [])) = subst Differ (sym (given_append before (p ∷ []))) (differ_more (names_given before) p.name.text h (not_given before p.name.text free.apart)) in
      let rest = each_free ps (param_read table members p before).part.state split.1 (subst (λ (qs : List Param). Differ (names_given qs)) (sym (param_state p before)) more) in (
        subst (λ (qs : List Param). Differ (names_given qs)) (ap (λ (qs : List Param). qs ++ ps) (param_state p before) ∙ append_assoc before (p ∷ []) ps) rest.0,
        (free.global, rest.1),
      )

  heads_named : (ps : List Param) → param_names (map (param_head (event_of table)) ps) ≡ names_given ps
  heads_named [] = refl
  heads_named (p ∷ ps) = ap (λ (ns : List (List ℕ)). p.name.text ∷ ns) (heads_named ps)

  all_free : (ps : List Param) → AllByRecursion (λ (p : Param). list_any (is_global_named p.name.text) members ≡ false) ps → AllByRecursion (λ n. is_there n (global_names (globals_in (event_of table) members)) ≡ false) (param_names (map (param_head (event_of table)) ps))
  all_free [] h = tt
  all_free (p ∷ ps) h = (no_global table members p.name.text h.0, all_free ps h.1)

  params_apart : (ps : List Param) → (params_found table members ps).faults ≡ [] → ParamsApart (map (param_head (event_of table)) ps) (globals_in (event_of table) members)
  unfolding params_found
  params_apart ps none = let h = each_free ps [] none tt in record { differ = subst Differ (sym (heads_named ps)) h.0; free = all_free ps h.1 }

  -- the parameters of an action that was read
  pub action_apart : (before : List Member) (a : ActionDecl) (old : Made) → (action_read table members before a old).faults ≡ [] → ParamsApart (map (param_head (event_of table)) a.params) (globals_in (event_of table) members)
  unfolding ◌>>=◌ tells given
  action_apart before a old none =
      let one = no_both (told a.name.spot (action_codes table before a old)) _ none in
      params_apart a.params (no_both (params_found table members a.params).faults _ one.1).0
