-- Steps behind values: what they reach, the places that they lead to, and the changes at their end.
use Rattle.std.proofs.Common.{◌≡◌, ◌∷◌, ◌++◌}
use Rattle.typed_runs.proofs.Common.{ℕ, List, [], Option, Some, None, refl, sym, subst, append_assoc, append-nil, Shape, out-Shape, Value, Program, Signature, Move, M, all_behind, all, alter, Meant, Reach, Fit, AllFit, MayFit, StepsTo, LeadsTo, Keeps}
use Rattle.epl_values.specs.declared.value.Value.TheVariants as value
use Rattle.typed_program.specs.Methods.{signature}
use Rattle.body_meaning.specs.Methods.{changed_by}
use Rattle.body_meaning.specs.Expressions.{Place, Change, reach_from, with_move, moves_of, further, place_behind, change_at_end, but_last, change_place, run_at, postfix_value, postfix}
use Rattle.value_shapes.proofs.Changing.{changed_fits}
use Rattle.typed_runs.proofs.Keeping.{Any, keeps_pure, keeps_bind, keeps_seq, keeps_as, leaves_change}
use Rattle.typed_runs.proofs.Variables.{shape_at, alter_fits}

module _ (program : Program) (monitor : ℕ) (room : List Shape) where
  -- computed steps lead from a shape to another
  abbrev pub Steps : Shape → List (M Move) → Shape → Type 0
  Steps s [] t = s ≡ t
  Steps s (m ∷ ms) t = (r : Shape) × Keeps program monitor room (λ to. StepsTo program.types to (out-Shape s) r) m × Steps r ms t

  -- a step of a path leads to the shape behind it, where it is one
  abbrev pub MoveLeads : Option (M Move) → Shape → Option Shape → Type 0
  MoveLeads None s after = Unit {0}
  MoveLeads (Some m) s after = (t : Shape) × (after ≡ Some t) × Keeps program monitor room (λ to. StepsTo program.types to (out-Shape s) t) m

  -- the arguments of a change are those of a method of this shape
  abbrev pub ChangeFits : Option Change → Shape → Type 0
  ChangeFits None s = Unit {0}
  ChangeFits (Some c) s = (row : Signature) × (signature s c.method ≡ Some row) × Keeps program monitor room (λ vs. AllFit program.types vs row.takes) c.arguments

  -- a step from this shape to that one
  pub record KeepsStep (r : Reach) (s : Shape) (after : Option Shape) : Type 0 where
    pub reach : (v : Value) → Fit program.types v s → Keeps program monitor room (λ w. MayFit program.types w after) (r.from v)
    pub leads : MoveLeads r.move s after
    pub alters : ChangeFits r.change s

  -- steps one behind another
  abbrev pub Walked : List Reach → Option Shape → Option Shape → Type 0
  Walked [] s t = s ≡ t
  Walked (r ∷ rs) None t = ⊥
  Walked (r ∷ rs) (Some s) t = (a : Option Shape) × KeepsStep r s a × Walked rs a t

  -- a place that leads to a shape
  abbrev pub PlaceLeads : Option Place → Option Shape → Type 0
  PlaceLeads None s = Unit {0}
  PlaceLeads (Some p) s = (r t : Shape) × (shape_at program monitor room p.variable ≡ Some r) × (s ≡ Some t) × Steps r p.moves t

  -- an expression of this shape, if it has one
  pub record KeepsExpr (m : Meant) (s : Option Shape) : Type 0 where
    pub told : Keeps program monitor room (λ v. MayFit program.types v s) m.value
    pub leads : PlaceLeads m.place s
    pub runs : Keeps program monitor room Any m.run

  -- ---- the values that steps reach

  -- from a value of the first shape to one of the last
  pub keeps_reach : (rs : List Reach) (s t : Option Shape) (v : Value) → Walked rs s t → MayFit program.types v s → Keeps program monitor room (λ w. MayFit program.types w t) (reach_from rs v)
  keeps_reach [] s t v is h = keeps_pure v (subst (MayFit program.types v) is h)
  keeps_reach (r ∷ rs) None t v w h = absurd w
  keeps_reach (r ∷ rs) (Some s) t v w h = keeps_bind _ (w.1.reach v h) (λ x k. keeps_reach rs w.0 t x w.2 k)

  -- ---- places

  -- steps behind steps
  steps_join : (s t u : Shape) (ms ns : List (M Move)) → Steps s ms t → Steps t ns u → Steps s (ms ++ ns) u
  steps_join s t u [] ns a b = subst (λ (x : Shape). Steps x ns u) (sym a) b
  steps_join s t u (m ∷ ms) ns a b = (a.0, a.1, steps_join a.0 t u ms ns a.2 b)

  -- the moves of steps lead on, where all are steps of a path
  abbrev MovesLead : Option (List (M Move)) → Shape → Option Shape → Type 0
  MovesLead None s t = Unit {0}
  MovesLead (Some ms) s t = (u : Shape) × (t ≡ Some u) × Steps s ms u

  -- a first step and those behind it
  move_leads : (m : Option (M Move)) (ms : Option (List (M Move))) (s : Shape) (a t : Option Shape) → MoveLeads m s a → ((b : Shape) → a ≡ Some b → MovesLead ms b t) → MovesLead (with_move m ms) s t
  move_leads None None s a t k h = tt
  move_leads None (Some ms) s a t k h = tt
  move_leads (Some m) None s a t k h = tt
  move_leads (Some m) (Some ms) s a t k h = let later = h k.0 k.1 in (later.0, later.1, (k.0, k.2, later.2))

  -- the moves of a walk lead where the walk does
  moves_lead : (rs : List Reach) (s : Shape) (t : Option Shape) → Walked rs (Some s) t → MovesLead (moves_of rs) s t
  moves_lead [] s t is = (s, sym is, refl)
  moves_lead (r ∷ rs) s t w = move_leads r.move (moves_of rs) s w.0 t w.1.leads (λ b is. moves_lead rs b t (subst (λ (o : Option Shape). Walked rs o t) is w.2))

  -- a place with further steps
  further_leads : (p : Place) (ms : Option (List (M Move))) (r s : Shape) (t : Option Shape) → shape_at program monitor room p.variable ≡ Some r → Steps r p.moves s → MovesLead ms s t → PlaceLeads (further p ms) t
  further_leads p None r s t is a b = tt
  further_leads p (Some ms) r s t is a b = (r, b.0, is, b.1, steps_join r s b.0 p.moves ms a b.2)

  -- the place behind steps
  pub place_leads : (p : Option Place) (rs : List Reach) (s t : Option Shape) → PlaceLeads p s → Walked rs s t → PlaceLeads (place_behind p rs) t
  place_leads None rs s t a w = tt
  place_leads (Some p) rs s t a w = further_leads p (moves_of rs) a.0 a.1 t a.2 a.4 (moves_lead rs a.1 t (subst (λ (o : Option Shape). Walked rs o t) a.3 w))

  -- ---- changes

  -- where the last step changes what the steps before it reach
  abbrev LastFits : List Reach → Option Change → Option Shape → Type 0
  LastFits rs None s = Unit {0}
  LastFits rs (Some c) s = (z : Shape) × Walked rs s (Some z) × ChangeFits (Some c) z

  -- one step more at the front
  one_more : (r : Reach) (rs : List Reach) (c : Option Change) (s : Shape) (a : Option Shape) → KeepsStep r s a → LastFits rs c a → LastFits (r ∷ rs) c (Some s)
  one_more r rs None s a k l = tt
  one_more r rs (Some c) s a k l = (l.0, (a, k, l.1), l.2)

  -- the last step
  at_end : (c : Option Change) (s : Shape) → ChangeFits c s → LastFits [] c (Some s)
  at_end None s k = tt
  at_end (Some c) s k = (s, refl, k)

  -- the steps before the last, and the change at the end
  last_fits : (rs : List Reach) (s t : Option Shape) → Walked rs s t → LastFits (but_last rs) (change_at_end rs) s
  last_fits [] s t w = tt
  last_fits (r ∷ rs) None t w = absurd w
  last_fits (r ∷ []) (Some s) t w = at_end r.change s w.1.alters
  last_fits (r ∷ q ∷ rs) (Some s) t w = one_more r (but_last (q ∷ rs)) (change_at_end (q ∷ rs)) s w.0 w.1 (last_fits (q ∷ rs) w.0 t w.2)

  -- moves behind those so far
  moves_behind : (s t : Shape) (Q : List Move → Type 0) (done : List Move) (ms : List (M Move)) → Steps s ms t → ((to : List Move) → LeadsTo program.types to s t → Q (done ++ to)) → Keeps program monitor room Q (all_behind done ms)
  moves_behind s t Q done [] is h = keeps_pure done (subst Q (append-nil done) (h [] is))
  moves_behind s t Q done (m ∷ ms) a h = keeps_bind _ a.1 (λ to k. moves_behind a.0 t Q (done ++ to ∷ []) ms a.2 (λ others l. subst Q (sym (append_assoc done (to ∷ []) others)) (h (to ∷ others) (a.0, k, l))))

  -- steps that are computed lead where they are to
  pub keeps_moves : (s t : Shape) (ms : List (M Move)) → Steps s ms t → Keeps program monitor room (λ to. LeadsTo program.types to s t) (all ms)
  keeps_moves s t ms a = moves_behind s t (λ to. LeadsTo program.types to s t) [] ms a (λ to l. l)

  -- a change at a place
  change_keeps : (p : Place) (c : Change) (r s : Shape) → shape_at program monitor room p.variable ≡ Some r → Steps r p.moves s → ChangeFits (Some c) s → Keeps program monitor room Any (change_place p c)
  unfolding change_place
  change_keeps p c r s is a k = keeps_bind _ (keeps_moves r s p.moves a) (λ to l. keeps_bind _ k.2 (λ vs fit. keeps_seq (leaves_change (alter p.variable to (changed_by c.method vs)) (λ old new f e. alter_fits program monitor room p.variable r s to (changed_by c.method vs) old new is l (λ v w g h. changed_fits program.types c.method vs v w s k.0 k.1 fit g h) f e)) (keeps_pure value.NoContext tt)))

  -- where there is no change, the value is computed
  run_keeps_none : (q : Option Place) (n : M Value) → Keeps program monitor room Any n → Keeps program monitor room Any (run_at q None n)
  run_keeps_none None n h = h
  run_keeps_none (Some q) n h = h

  -- where there is one, it is made at its place
  run_keeps_some : (q : Option Place) (c : Change) (z : Shape) (n : M Value) → PlaceLeads q (Some z) → ChangeFits (Some c) z → Keeps program monitor room Any n → Keeps program monitor room Any (run_at q (Some c) n)
  run_keeps_some None c z n h l k = k
  run_keeps_some (Some q) c z n h l k = let same : h.1 ≡ z = cc in change_keeps q c h.0 z h.2 (subst (Steps h.0 q.moves) same h.4) l

  -- an expression with steps behind it, as a statement
  run_keeps : (p : Option Place) (c : Option Change) (rs : List Reach) (s : Option Shape) (m : M Value) → PlaceLeads p s → LastFits rs c s → Keeps program monitor room Any m → Keeps program monitor room Any (run_at (place_behind p rs) c m)
  run_keeps p None rs s m a l k = run_keeps_none (place_behind p rs) m k
  run_keeps p (Some c) rs s m a l k = run_keeps_some (place_behind p rs) c l.0 m (place_leads p rs s (Some l.0) a l.1) l.2 k

  -- the value of an expression with steps behind it
  pub keeps_postfix_value : (m : Meant) (rs : List Reach) (s t : Option Shape) → KeepsExpr m s → Walked rs s t → Keeps program monitor room (λ v. MayFit program.types v t) (postfix_value m rs)
  unfolding postfix_value
  keeps_postfix_value m rs s t a w = keeps_bind _ a.told (λ v h. keeps_reach rs s t v w h)

  -- a value with steps behind it
  pub keeps_postfix : (m : Meant) (rs : List Reach) (s t : Option Shape) → KeepsExpr m s → Walked rs s t → KeepsExpr (postfix m rs) t
  keeps_postfix m rs s t a w = record {
    told = keeps_postfix_value m rs s t a w;
    leads = place_leads m.place rs s t a.leads w;
    runs = run_keeps m.place (change_at_end rs) (but_last rs) s (postfix_value m rs) a.leads (last_fits rs s t w) (keeps_as (λ v h. tt) (keeps_postfix_value m rs s t a w));
  }
