-- Members and parameters one after another, each behind those before it.
use Rattle.std.proofs.Common.{◌≡◌, ℕ, ◌+◌, ◌<◌, ◌≤◌, length, drop, take, get_or, List, [], ◌∷◌, ◌++◌, map, Result, Ok, Err, refl, sym, ap, subst, ◌∙◌}
use Rattle.std.specs.Prelude.{IsErrAnd}
use Rattle.std.proofs.lemmas.List.{drop_all, take_more}
use Rattle.epl_values.specs.declared.shape.Shape.{Shape}
use Rattle.epl_tree.specs.declared.unit.Declaration.{Declaration}
use Rattle.epl_tree.specs.declared.unit.Member.{Member}
use Rattle.epl_tree.specs.declared.unit.Param.{Param}
use Rattle.type_table.specs.declared.fault.Refusal.{Refusal}
use Rattle.type_table.specs.declared.fault.Refusal.TheVariants as refusal
use Rattle.type_table.specs.declared.table.Table.{Table}
use Rattle.type_table.specs.Found.{Found, Finds, first_of}
use Rattle.stmt_check.specs.declared.made.Made.{Made}
use Rattle.stmt_check.specs.Actions.{param_read, params_found}
use Rattle.stmt_check.specs.Members.{member_read, members_read}
use Rattle.stmt_check.specs.Programs.{declaration_read, declarations_read}
use Rattle.stmt_check.specs.Steps.{After, Reads, each, done, Does, Goes}
use Rattle.stmt_check.proofs.Going.{Rows, front, goes_stop, goes_pure, next_drop, read_on, row_step, row_stop, row_end}

same_found : {S A : Type 0} (m n : Reads S A) (e : Refusal) (s t last : S) → m s ≡ n t → Does m s last (Err e) → Does n t last (Err e)
same_found m n (refusal.Fault fault) s t last is d = ap (λ found. first_of found.faults) (sym is) ∙ d
same_found m n refusal.Memory s t last is d = tt

-- a refusal of what finds the same
pub goes_found : {S A : Type 0} {m n : Reads S A} {e : Refusal} {s t : S} (last : S) → m s ≡ n t → Goes m s last (Err e) → Goes n t last (Err e)
goes_found {m = m} {n = n} {e = e} {s = s} {t = t} last is h = record { does = same_found m n e s t last is h.does }

pub taken_more : {A : Type 0} (xs : List A) (i : ℕ) (x : A) → i < length xs → x ≡ get_or xs i x → take (i + 1) xs ≡ take i xs ++ x ∷ []
taken_more xs i x lt is = take_more xs i x lt ∙ ap (λ y. take i xs ++ y ∷ []) (sym is)

-- ---- members

module _ (table : Table) (ms : List Member) (i : ℕ) {m : Member} {made : Made} where
  pub members_step : {new : Made} {all : Found (After Made (Unit {0}))} → i < length ms → m ≡ get_or ms i m → members_read table ms (take i ms) (drop i ms) made ≡ all → Goes (member_read table ms (take i ms) m) made new (Ok tt) → members_read table ms (take (i + 1) ms) (drop (i + 1) ms) new ≡ all
  members_step {new} lt is so h =
      ap (λ before. members_read table ms before (drop (i + 1) ms) new) (taken_more ms i m lt is)
      ∙ sym (read_on (λ _. members_read table ms (take i ms ++ m ∷ []) (drop (i + 1) ms)) h)
      ∙ ap (λ rest. members_read table ms (take i ms) rest made) (sym (next_drop ms i m lt is))
      ∙ so

  pub members_stop : {new old : Made} (last : Made) {e : Refusal} → i < length ms → m ≡ get_or ms i m → members_read table ms (take i ms) (drop i ms) made ≡ members_read table ms [] ms old → Goes (member_read table ms (take i ms) m) made new (Err e) → Goes (members_read table ms [] ms) old last (Err e)
  members_stop {old = old} last {e} lt is so h = goes_found last (ap (λ rest. members_read table ms (take i ms) rest made) (sym (next_drop ms i m lt is)) ∙ so) (goes_stop (λ _. members_read table ms (take i ms ++ m ∷ []) (drop (i + 1) ms)) last h)

pub members_end : (table : Table) (ms : List Member) (i : ℕ) {made old : Made} → length ms ≤ i → members_read table ms (take i ms) (drop i ms) made ≡ members_read table ms [] ms old → Goes (members_read table ms [] ms) old made (Ok tt)
members_end table ms i {made} le so = record { does = sym so ∙ ap (λ rest. members_read table ms (take i ms) rest made) (drop_all i ms le) ∙ (goes_pure tt made).does }

-- ---- parameters

-- the error that a `?` hands on
pub finds_err : {A : Type 0} (e : Refusal) (r : Result A Refusal) (found : Found A) → IsErrAnd r (λ x. x ≡ e) → Finds {A = A} (Err e) found → Finds r found
finds_err e (Ok x) found h g = absurd h
finds_err {A = A} e (Err x) found h g = subst (λ (y : Refusal). Finds {A = A} (Err y) found) (sym h) g

pub params_of : (table : Table) (ms : List Member) → Rows (λ (ps : List Param). map (param_read table ms) ps) (param_read table ms)
params_of table ms = record { none = refl; more = λ x xs. refl }

pub params_step : (table : Table) (ms : List Member) (ps : List Param) (i : ℕ) {p : Param} (out : List Shape) {s : Shape} {all : Found (After (List Param) (List Shape))} → i < length ps → p ≡ get_or ps i p → front out (each (map (param_read table ms) (drop i ps)) (take i ps)) ≡ all → Goes (param_read table ms p) (take i ps) (take i ps ++ p ∷ []) (Ok s) → front (out ++ s ∷ []) (each (map (param_read table ms) (drop (i + 1) ps)) (take (i + 1) ps)) ≡ all
params_step table ms ps i {p} out {s} lt is so h =
    ap (λ before. front (out ++ s ∷ []) (each (map (param_read table ms) (drop (i + 1) ps)) before)) (taken_more ps i p lt is)
    ∙ row_step (params_of table ms) ps i out lt is so h

pub params_stop : (table : Table) (ms : List Member) (ps : List Param) (i : ℕ) {p : Param} (out : List Shape) {new : List Param} (e : Refusal) → i < length ps → p ≡ get_or ps i p → front out (each (map (param_read table ms) (drop i ps)) (take i ps)) ≡ each (map (param_read table ms) ps) [] → Goes (param_read table ms p) (take i ps) new (Err e) → Finds (Err e) (params_found table ms ps)
unfolding params_found
params_stop table ms ps i out (refusal.Fault fault) lt is so h = (row_stop (params_of table ms) ps i out [] lt is so h).does
params_stop table ms ps i out refusal.Memory lt is so h = tt

pub params_end : (table : Table) (ms : List Member) (ps : List Param) (i : ℕ) {out : List Shape} → length ps ≤ i → front out (each (map (param_read table ms) (drop i ps)) (take i ps)) ≡ each (map (param_read table ms) ps) [] → Finds (Ok out) (params_found table ms ps)
unfolding params_found
params_end table ms ps i {out} le so =
    let d : each (map (param_read table ms) ps) [] ≡ done out (take i ps) = (row_end (params_of table ms) ps i le so).does in
    (ap (λ found. found.faults) d, ap (λ found. found.part.part) d)

-- ---- declarations of a file

module _ (table : Table) (ds : List Declaration) (i : ℕ) {d : Declaration} {made : Made} where
  pub declared_step : {new : Made} {all : Found (After Made (Unit {0}))} → i < length ds → d ≡ get_or ds i d → declarations_read table (drop i ds) made ≡ all → Goes (declaration_read table d) made new (Ok tt) → declarations_read table (drop (i + 1) ds) new ≡ all
  declared_step lt is so h =
      sym (read_on (λ _. declarations_read table (drop (i + 1) ds)) h)
      ∙ ap (λ rest. declarations_read table rest made) (sym (next_drop ds i d lt is))
      ∙ so

  pub declared_stop : {new old : Made} (last : Made) {e : Refusal} → i < length ds → d ≡ get_or ds i d → declarations_read table (drop i ds) made ≡ declarations_read table ds old → Goes (declaration_read table d) made new (Err e) → Goes (declarations_read table ds) old last (Err e)
  declared_stop last lt is so h = goes_found last (ap (λ rest. declarations_read table rest made) (sym (next_drop ds i d lt is)) ∙ so) (goes_stop (λ _. declarations_read table (drop (i + 1) ds)) last h)

pub declared_end : (table : Table) (ds : List Declaration) (i : ℕ) {made old : Made} → length ds ≤ i → declarations_read table (drop i ds) made ≡ declarations_read table ds old → Goes (declarations_read table ds) old made (Ok tt)
declared_end table ds i {made} le so = record { does = sym so ∙ ap (λ rest. declarations_read table rest made) (drop_all i ds le) ∙ (goes_pure tt made).does }
