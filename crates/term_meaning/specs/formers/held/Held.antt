-- `Held` as a type through which a type may lead back to itself: it holds one value, which lies at a place of the heap.
use mathlib.Core.Path.{refl}
use mathlib.Core.Former.{Former, this, const, pair, via}
use base.Fml.{ftrue}
use base.Stored.{gnil}
use denote.Hole.Fix.{over}
use denote.HoleLaws.{Alike}
use denote.HolePlaces.{Laid, Recodes, one_value, struct_places}
use denote.Memory.{part_of}
use denote.Model.Placed.{view_places}
use denote.Param.Weighed.{Weighed}
use denote.RattleType.{RattleType}
use denote.RawPtr.{Ptr}
use denote.Sharing.{nothing}
use Rattle.std.specs.declared.alloc.Global.{Global}
use Rattle.std.specs.declared.boxed.Box.{Box}
use Rattle.std.specs.contracts.alloc.Global as heap
use Rattle.std.specs.contracts.boxed.Box as boxes
use Rattle.std.specs.contracts.impls.GlobalAllocator.TheImpl.{ghosts}
use Rattle.term_meaning.specs.declared.held.Held.TheInside.{Inside}
use Rattle.term_meaning.specs.declared.held.Held.TheView.{view, invariant}
use Rattle.term_meaning.specs.contracts.held.Held as C
use Rattle.term_meaning.specs.contracts.held.Held.TheInside as I

abbrev pub the_former : Former {0} → Former {0}
the_former g = g

abbrev pub the_weighed : {g : Former {0}} → Weighed g → Weighed (the_former g)
the_weighed w = w

-- where a value lies, and who gave the place
abbrev Place : Type 0
Place = Ptr × Global

abbrev place_of : {X : Type 0} → Box X Global → Place
place_of b = (b.ptr, b.alloc)

abbrev lying : {X : Type 0} → X → Place → Box X Global
lying x p = record { ptr = p.0; alloc = p.1; value = x }

-- the value, and its place
abbrev fields : Former {0}
fields = via (pair this (const Place)) Inside (λ X a. (a.inner.value, place_of a.inner)) (λ X v. record { inner = lying v.0 v.1 }) (λ X a. refl) (λ X v. refl)

-- boxes of values of one type
abbrev boxed : RattleType → RattleType
boxed R = boxes.the_row R heap.the_row ghosts

module _ (R S : RattleType) (h : R.Denot → S.Denot) where
  -- the same box, with what its value goes to
  abbrev moved : Box R.Denot Global → Box S.Denot Global
  moved b = lying (h b.value) (place_of b)

  -- a box owns and lends what lies in it, and nothing of it goes by the value's type but that
  boxes_alike : Alike R S h → Laid (boxed R) (boxed S) moved
  unfolding part_of
  boxes_alike a = (
    (λ i. (boxed (one_value R (a.mir_same i) (λ vs. ftrue) (λ b o. nothing) gnil)).mir),
    (
      (λ b i. (boxed (one_value R (a.mir_same i) (a.own_same b.value i) (a.shr_same b.value i) gnil)).own_val (lying tt (place_of b))),
      (λ b i. (boxed (one_value R (a.mir_same i) (a.own_same b.value i) (a.shr_same b.value i) gnil)).shr_at (lying tt (place_of b))),
    ),
  )

  pub the_places : Alike R S h → Alike (C.the_row R) (C.the_row S) ((the_former this).map R.Denot S.Denot h)
  the_places a = view_places fields this view (λ X Y k u. refl) (λ X u. refl) R.Denot S.Denot h (C.the_row R).coded (C.the_row S).coded
      (invariant R.Denot) (invariant S.Denot) (λ u p q. refl) (λ u p q. refl) (λ u e. tt) (λ u e. tt)
      (over (I.the_row R)) (over (I.the_row S))
      (struct_places (I.the_type R) (I.the_type S) (moved, tt) _ (λ d. refl) refl (boxes_alike a, tt))

  pub the_codes_placed : Recodes R S h → Recodes (C.the_row R) (C.the_row S) ((the_former this).map R.Denot S.Denot h)
  the_codes_placed e d = e d
