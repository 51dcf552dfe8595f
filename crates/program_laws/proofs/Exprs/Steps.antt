-- Where a walk comes to: each step leads on from the shape before it.
use Rattle.std.proofs.Common.{◌≡◌, ◌+◌, ◌∷◌, ◌++◌}
use Rattle.program_laws.proofs.Common.{true, List, [], map, length, Option, Some, None, refl, sym, ap, subst, ◌∙◌, true≢false, and_parts, and_from, length_push, Spot, Shape, TypedExpr, TypedSuffix, roll-TypedSuffix, TypedSuffixNode, stands, Names, Stepping, stepping, shape_of, may_stand, walks, agrees, Gives, Root, Judged, Reach, Walk, Demand, Wish, Value, given_codes, key_codes, misfit_codes, path_codes, shape_given, Step, walk_start, walked, reached, wish_stands, wished, gives_result}
use Rattle.expr_rules.specs.declared.placed.Gives.TheVariants as gives
use Rattle.expr_rules.specs.Places.{placed}
use Rattle.program_laws.proofs.Exprs.Sure.{Sure, sure_then, sure_sound}
use Rattle.program_laws.proofs.Exprs.Alike.{same_is}
use Rattle.program_laws.proofs.Exprs.Holding.{step_checked, step_made, holds_stands}
use Rattle.program_laws.proofs.Exprs.Answering.{Answering, wished_value, wished_void, some_known, placed_sure}
use Rattle.program_laws.proofs.Exprs.Calls.{agrees_self}
use Rattle.program_laws.proofs.Shapes.Lists.{no_both}

abbrev pub IsKnown : Gives → Type 0
IsKnown gives.Nothing = Unit {0}
IsKnown gives.Unknown = ⊥
IsKnown (gives.Value s) = Unit {0}

wished_given : (demand : Demand) (root : Option Root) (g : Gives) → IsKnown g → given_codes demand root g ≡ [] → wished demand.wish (shape_given g) ≡ true
wished_given demand root gives.Nothing i h = wished_void demand.wish h
wished_given demand root gives.Unknown i h = absurd i
wished_given demand root (gives.Value s) i h =
    let front = no_both (key_codes demand.wish s ++ misfit_codes demand.wish s) (path_codes demand.paths root s) h in
    let both = no_both (key_codes demand.wish s) (misfit_codes demand.wish s) front.0 in
    wished_value demand.wish s both.0 both.1

pub result_known : (o : Option Shape) → IsKnown (gives_result o)
result_known None = tt
result_known (Some s) = tt

pub result_shape : (o : Option Shape) → shape_given (gives_result o) ≡ o
result_shape None = refl
result_shape (Some s) = refl

module _ (names : Names) where
  walks_push : (o : Option Shape) (us : List TypedSuffix) (u : TypedSuffix) (from : Shape) (after : Option Shape) → walks o (map (stepping names) us) (Some from) ≡ true → (stepping names u).shape ≡ after → (stepping names u).leads from ≡ true → walks o (map (stepping names) (us ++ u ∷ [])) after ≡ true
  walks_push None [] u from after h is leads = absurd (true≢false (sym h))
  walks_push None (x ∷ us) u from after h is leads = absurd (true≢false (sym h))
  walks_push (Some s) [] u from after h is leads =
      and_from ((stepping names u).leads s) (agrees (stepping names u).shape after)
      (subst (λ (t : Shape). (stepping names u).leads t ≡ true) (sym (same_is s from h)) leads)
      (ap (λ (o : Option Shape). agrees o after) is ∙ agrees_self after)
  walks_push (Some s) (x ∷ us) u from after h is leads =
      let b = and_parts ((stepping names x).leads s) (walks (stepping names x).shape (map (stepping names) us) (Some from)) h in
      and_from ((stepping names x).leads s) (walks (stepping names x).shape (map (stepping names) (us ++ u ∷ [])) after) b.0 (walks_push (stepping names x).shape us u from after b.1 is leads)

  -- a walk from a first expression, whose shape is what is asked
  pub record Reaches (wish : Wish) (first : TypedExpr) (walk : Walk) : Type 0 where
    pub begins : walk.first ≡ first
    pub there : may_stand names.types walk.shape ≡ true
    pub led : walks (shape_of first) (map (stepping names) walk.suffixes) walk.shape ≡ true
    pub fit : wished wish walk.shape ≡ true

  pub start_reaches : (wish : Wish) (j : Judged) → Answering names wish j → Reaches wish j.typed (walk_start j)
  start_reaches wish j a = record { begins = refl; there = holds_stands names j.typed a.whole; led = agrees_self (shape_of j.typed); fit = a.fit }

  -- the walk behind one step more
  pub record Next (wish : Wish) (first : TypedExpr) (walk next : Walk) : Type 0 where
    pub reaches : Reaches wish first next
    pub longer : length next.suffixes ≡ length walk.suffixes + 1

  -- a step that answers wherever it stands
  pub record StepAnswers (s : Step) : Type 0 where
    pub at_walk : (spot : Spot) (demand : Demand) (first : TypedExpr) (walk : Walk) → wish_stands names.types demand.wish ≡ true → Reaches Value first walk → Sure (Next demand.wish first walk) (s.found spot demand walk)

  -- what a step gives, where it leads on
  pub record Leads (n : TypedSuffixNode) (from : Shape) (g : Gives) : Type 0 where
    pub known : IsKnown g
    pub there : may_stand names.types (shape_given g) ≡ true
    pub leads_on : step_checked names n (shape_given g) from ≡ true

  -- what is known where a step stands at its place
  record Landed (demand : Demand) (n : TypedSuffixNode) (from : Shape) (s : Option Shape) : Type 0 where
    there : may_stand names.types s ≡ true
    leads_on : step_checked names n s from ≡ true
    fit : wished demand.wish s ≡ true

  landed_next : (demand : Demand) (root : Option Root) (walk : Walk) (n : TypedSuffixNode) (from : Shape) (first : TypedExpr) (s : Option Shape) → Reaches Value first walk → walk.shape ≡ Some from → Landed demand n from s → Sure (Next demand.wish first walk) (walked walk root n s)
  landed_next demand root walk n from first s r is l =
      sure_sound (Next demand.wish first walk) (record { first = walk.first; suffixes = walk.suffixes ++ roll-TypedSuffix record { shape = s; node = n } ∷ []; shape = s; root = root })
      (record {
        reaches = record {
          begins = r.begins;
          there = l.there;
          fit = l.fit;
          led = walks_push (shape_of first) walk.suffixes (roll-TypedSuffix record { shape = s; node = n }) from s
              (subst (λ (o : Option Shape). walks (shape_of first) (map (stepping names) walk.suffixes) o ≡ true) is r.led)
              (ap (λ (x : Stepping). x.shape) (step_made names s n))
              (ap (λ (x : Stepping). x.leads from) (step_made names s n) ∙ l.leads_on);
        };
        longer = length_push walk.suffixes (roll-TypedSuffix record { shape = s; node = n });
      })

  pub reached_sure : (spot : Spot) (demand : Demand) (root : Option Root) (walk : Walk) (reach : Reach) (first : TypedExpr) (from : Shape) → Reaches Value first walk → walk.shape ≡ Some from → (reach.own ≡ None → Leads reach.node from reach.given) → Sure (Next demand.wish first walk) (reached spot demand root walk reach)
  reached_sure spot demand root walk reach first from r is h =
      sure_then (Landed demand reach.node from) (Next demand.wish first walk) (placed spot demand reach.own root reach.given) (walked walk root reach.node)
      (placed_sure names (Landed demand reach.node from) spot demand reach.own root reach.given (λ none clear.
      let l = h none in
      record { there = l.there; leads_on = l.leads_on; fit = wished_given demand root reach.given l.known clear }))
      (λ s l. landed_next demand root walk reach.node from first s r is l)

  pub reached_from : (first : TypedExpr) (walk : Walk) → Reaches Value first walk → (s : Shape) × (walk.shape ≡ Some s)
  reached_from first walk r = some_known walk.shape r.fit

  pub from_stands : (first : TypedExpr) (walk : Walk) (s : Shape) → Reaches Value first walk → walk.shape ≡ Some s → stands names.types s ≡ true
  from_stands first walk s r is = sym (ap (λ (o : Option Shape). may_stand names.types o) is) ∙ r.there
