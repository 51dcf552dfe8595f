-- Values of shapes that may be known.
use Rattle.std.proofs.Common.{◌≡◌, ◌∷◌}
use Rattle.value_shapes.proofs.Common.{List, [], map, Option, Some, sym, subst, false≢true, Shape, EventShape, Value, Fit, AllFit}
use Rattle.value_shapes.specs.Fits.{AllMayFit, MayFit}
use Rattle.value_shapes.proofs.Lists.{fit_cons, fit_head, fit_nil, fit_tail}

module _ (types : List EventShape) where
  -- a shape that is known to be this one
  pub fit_known : (v : Value) (o : Option Shape) (s : Shape) → o ≡ Some s → MayFit types v o → Fit types v s
  fit_known v o s e f = subst (MayFit types v) e f

  pub may_fit : (v : Value) (o : Option Shape) (s : Shape) → o ≡ Some s → Fit types v s → MayFit types v o
  may_fit v o s e f = subst (MayFit types v) (sym e) f

  -- values of shapes that are all known
  pub all_known : (values : List Value) (shapes : List Shape) → AllMayFit types values (map Some shapes) → AllFit types values shapes
  all_known [] [] a = fit_nil types
  all_known [] (s ∷ ss) a = absurd a
  all_known (v ∷ vs) [] a = absurd a
  all_known (v ∷ vs) (s ∷ ss) a = fit_cons types v vs s ss a.0 (all_known vs ss a.1)

  pub all_may_fit : (values : List Value) (shapes : List Shape) → AllFit types values shapes → AllMayFit types values (map Some shapes)
  all_may_fit [] [] a = tt
  all_may_fit [] (s ∷ ss) a = absurd (false≢true a.have)
  all_may_fit (v ∷ vs) [] a = absurd (false≢true a.have)
  all_may_fit (v ∷ vs) (s ∷ ss) a = (fit_head types v vs s ss a, all_may_fit vs ss (fit_tail types v vs s ss a))
