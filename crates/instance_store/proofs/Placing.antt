-- Channels at their place.
use Rattle.std.proofs.Common.{◌≡◌, ℕ, zero, suc, ◌<◌, ◌≤◌, Bool, true, false, List, [], ◌∷◌, length, Result, Ok, Err, refl, sym, ap, subst, ◌∙◌, arith}
use Rattle.std.specs.Prelude.{◌||◌, slice_get, slice_index_or, OnOk, OnErr}
use Rattle.std.specs.Str.{bytes_eq}
use Rattle.std.specs.List.{insert, remove}
use Rattle.std.specs.List.Sorted.{IsPartitionedBy, IsPartitionPoint}
use Rattle.std.specs.declared.cmp.Ordering.TheVariants.{Greater}
use Rattle.std.specs.Ordering.{is_le, nat_cmp}
use Rattle.std.specs.Cmp.Lexicographic.{slice_cmp}
use Rattle.instance_store.specs.Channels.{Ascend, holds, with_one, without_one}
use Rattle.instance_store.specs.Places.{in_front, is_at, is_before}
use Rattle.instance_store.proofs.Ascending.{AllFrom, before_falls, differs_before, differs_greater, greater_behind, is_greater, with_order, without_order}

-- ---- what is found by halves

from_at : (c : List ℕ) (cs : List (List ℕ)) (j : ℕ) (d : List ℕ) → AllFrom c cs → j < length cs → is_le (slice_cmp nat_cmp c (slice_index_or cs j d)) ≡ true
from_at c [] j d h lt = absurd (omega arith)
from_at c (x ∷ xs) zero d h lt = h.0
from_at c (x ∷ xs) (suc j) d h lt = from_at c xs j d h.1 (omega arith)

pub parted : (channel : List ℕ) (cs : List (List ℕ)) → Ascend cs → IsPartitionedBy (is_before channel) cs
parted channel [] a i j d ij jn e = absurd (omega arith)
parted channel (x ∷ xs) a zero zero d ij jn e = e
parted channel (x ∷ xs) a zero (suc j) d ij jn e = before_falls channel x (slice_index_or xs j d) (from_at x xs j d a.0 (omega arith)) e
parted channel (x ∷ xs) a (suc i) zero d ij jn e = absurd (omega arith)
parted channel (x ∷ xs) a (suc i) (suc j) d ij jn e = parted channel xs a.1 i j d (omega arith) (omega arith) e

pub point : (p : List ℕ → Bool) (cs : List (List ℕ)) (m : ℕ) → m ≤ length cs → IsPartitionPoint (λ y. p y ≡ true) (λ y. p y ≡ false) cs m → m ≡ in_front p cs
point p [] m h at = omega arith
point p (x ∷ xs) zero h at = let first : p x ≡ false = at.1 0 x (omega arith) (omega arith) in rw first refl
point p (x ∷ xs) (suc m) h at =
    let first : p x ≡ true = at.0 0 x (omega arith) (omega arith) in
    let rest : m ≡ in_front p xs = point p xs m (omega arith) ((λ i d low high. at.0 (suc i) d (omega arith) (omega arith)), (λ i d low high. at.1 (suc i) d (omega arith) (omega arith))) in
    rw first (ap suc rest)

-- ---- what stands there

module _ (channel : List ℕ) where
  put_at : (cs : List (List ℕ)) → insert cs (in_front (is_before channel) cs) channel ≡ with_one channel cs
  put_at [] = refl
  put_at (c ∷ cs) = go (is_before channel c) refl (put_at cs)
    where
      go : (b : Bool) → is_before channel c ≡ b → insert cs (in_front (is_before channel) cs) channel ≡ with_one channel cs → insert (c ∷ cs) (in_front (is_before channel) (c ∷ cs)) channel ≡ with_one channel (c ∷ cs)
      go true is r = rw is (ap (λ ds. c ∷ ds) r)
      go false is r = rw is refl

  removed_at : (cs : List (List ℕ)) → is_at channel (slice_get cs (in_front (is_before channel) cs)) ≡ true → remove cs (in_front (is_before channel) cs) ≡ without_one channel cs
  removed_at [] h = absurd (cc)
  removed_at (c ∷ cs) h = go (is_before channel c) refl (removed_at cs) h
    where
      go : (b : Bool) → is_before channel c ≡ b → (is_at channel (slice_get cs (in_front (is_before channel) cs)) ≡ true → remove cs (in_front (is_before channel) cs) ≡ without_one channel cs)
          → is_at channel (slice_get (c ∷ cs) (in_front (is_before channel) (c ∷ cs))) ≡ true → remove (c ∷ cs) (in_front (is_before channel) (c ∷ cs)) ≡ without_one channel (c ∷ cs)
      go true is r h = let differ : bytes_eq c channel ≡ false = differs_before channel c is in rw (is, differ) (ap (λ ds. c ∷ ds) (r (rw is at h)))
      go false is r h = let here : bytes_eq c channel ≡ true = rw is at h in rw (is, here) refl

  -- none is held behind a greater one
  none_held : (c : List ℕ) (cs : List (List ℕ)) → slice_cmp nat_cmp c channel ≡ Greater → AllFrom c cs → holds channel cs ≡ false
  none_held c [] h k = refl
  none_held c (d ∷ cs) h k =
      let differ : bytes_eq d channel ≡ false = differs_greater channel d (greater_behind channel c d h k.0) in
      rw differ (none_held c cs h k.1)

  held_at : (cs : List (List ℕ)) → Ascend cs → is_at channel (slice_get cs (in_front (is_before channel) cs)) ≡ holds channel cs
  held_at [] a = refl
  held_at (c ∷ cs) a = go (is_before channel c) refl (held_at cs a.1)
    where
      here : (b : Bool) → bytes_eq c channel ≡ b → is_before channel c ≡ false → bytes_eq c channel ≡ (bytes_eq c channel || holds channel cs)
      here true is first = rw is refl
      here false is first = rw is (sym (none_held c cs (is_greater channel c first is) a.0))

      go : (b : Bool) → is_before channel c ≡ b → is_at channel (slice_get cs (in_front (is_before channel) cs)) ≡ holds channel cs
          → is_at channel (slice_get (c ∷ cs) (in_front (is_before channel) (c ∷ cs))) ≡ holds channel (c ∷ cs)
      go true is r = let differ : bytes_eq c channel ≡ false = differs_before channel c is in rw (is, differ) r
      go false is r = rw is (here (bytes_eq c channel) refl is)

  without_none : (cs : List (List ℕ)) → holds channel cs ≡ false → without_one channel cs ≡ cs
  without_none [] h = refl
  without_none (c ∷ cs) h = go (bytes_eq c channel) refl (without_none cs) h
    where
      go : (b : Bool) → bytes_eq c channel ≡ b → (holds channel cs ≡ false → without_one channel cs ≡ cs) → holds channel (c ∷ cs) ≡ false → without_one channel (c ∷ cs) ≡ c ∷ cs
      go true is r h = let never : true ≡ false = rw is at h in cc
      go false is r h = rw is (ap (λ ds. c ∷ ds) (r (rw is at h)))

  -- ---- changed there, where the list was read as `seen`

  module _ (cs seen : List (List ℕ)) (same : seen ≡ cs) (m : ℕ) where
    stands : m ≡ in_front (is_before channel) seen → m ≡ in_front (is_before channel) cs
    stands place = place ∙ ap (in_front (is_before channel)) same

    told : (b : Bool) → m ≡ in_front (is_before channel) seen → b ≡ is_at channel (slice_get seen m) → b ≡ is_at channel (slice_get cs (in_front (is_before channel) cs))
    told b place is = is ∙ ap (λ ds. is_at channel (slice_get ds m)) same ∙ ap (λ k. is_at channel (slice_get cs k)) (stands place)

    pub put_in : {A E : Type 0} (r : Result A E) (new : List (List ℕ)) (named : List ℕ) → named ≡ channel → m ≡ in_front (is_before named) seen → OnOk r (new ≡ insert cs m channel) → OnOk r (new ≡ with_one channel cs)
    put_in (Ok x) new named is place put = put ∙ ap (λ k. insert cs k channel) (stands (place ∙ ap (λ n. in_front (is_before n) seen) is)) ∙ put_at cs
    put_in (Err e) new named is place put = tt

    pub told_at : (b : Bool) → Ascend cs → m ≡ in_front (is_before channel) seen → b ≡ is_at channel (slice_get seen m) → b ≡ holds channel cs
    told_at b a place is = told b place is ∙ held_at cs a

    pub taken : (new : List (List ℕ)) → m ≡ in_front (is_before channel) seen → true ≡ is_at channel (slice_get seen m) → new ≡ remove cs m → new ≡ without_one channel cs
    taken new place is rest = rest ∙ ap (remove cs) (stands place) ∙ removed_at cs (sym (told true place is))

    pub kept : Ascend cs → m ≡ in_front (is_before channel) seen → false ≡ is_at channel (slice_get seen m) → cs ≡ without_one channel cs
    kept a place is = sym (without_none cs (sym (told_at false a place is)))

  module _ (cs : List (List ℕ)) where
    pub put_order : {A E : Type 0} (r : Result A E) (new : List (List ℕ)) → Ascend cs → OnOk r (new ≡ with_one channel cs) → OnErr r (new ≡ cs) → Ascend new
    put_order (Ok x) new a ok err = subst Ascend (sym ok) (with_order channel cs a)
    put_order (Err e) new a ok err = subst Ascend (sym err) a

    pub fewer_order : (new : List (List ℕ)) → Ascend cs → new ≡ without_one channel cs → Ascend new
    fewer_order new a is = subst Ascend (sym is) (without_order channel cs a)
