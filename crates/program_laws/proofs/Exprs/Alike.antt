-- Two shapes that are told to be the same are one.
use Rattle.std.proofs.Common.{◌≡◌}
use Rattle.program_laws.proofs.Common.{Bool, true, refl, sym, ap, ap₂, subst, ◌∙◌, true≢false, and_parts, and_from, eqb-true, eq-eqb, Shape, Shape-F, map-Shape, out-Shape, roll-Shape, roll-out-Shape, same}
use Rattle.epl_values.specs.declared.shape.Shape.{out-roll-Shape, fold-roll-Shape, ind-Shape}
use Rattle.epl_values.specs.declared.shape.Shape.TheOpen as layer
use Rattle.typed_program.specs.Shapes.{same_layer}

same_roll : (d : Shape-F Shape) (t : Shape) → same (roll-Shape d) t ≡ same_layer (map-Shape Shape (Shape → Bool) same d) (out-Shape t)
same_roll d t = ap (λ (f : Shape → Bool). f t) (fold-roll-Shape (Shape → Bool) (λ s u. same_layer s (out-Shape u)) d)

abbrev Is : Shape → Type 0
Is s = (t : Shape) → same s t ≡ true → s ≡ t

abbrev Known : Type 0
Known = (s : Shape) × Is s

abbrev shapes : Shape-F Known → Shape-F Shape
shapes y = map-Shape Known Shape (λ e. e.0) y

layer_is : (y : Shape-F Known) (u : Shape-F Shape) → same_layer (map-Shape Shape (Shape → Bool) same (shapes y)) u ≡ true → shapes y ≡ u
layer_is layer.Integer layer.Integer h = refl
layer_is layer.Integer u h = absurd (true≢false (sym h))
layer_is layer.Boolean layer.Boolean h = refl
layer_is layer.Boolean u h = absurd (true≢false (sym h))
layer_is layer.Text layer.Text h = refl
layer_is layer.Text u h = absurd (true≢false (sym h))
layer_is (layer.Sequence item) (layer.Sequence other) h = ap layer.Sequence (item.1 other h)
layer_is (layer.Sequence item) u h = absurd (true≢false (sym h))
layer_is (layer.Dictionary key value) (layer.Dictionary k v) h = let b = and_parts (same key.0 k) (same value.0 v) h in ap₂ layer.Dictionary (key.1 k b.0) (value.1 v b.1)
layer_is (layer.Dictionary key value) u h = absurd (true≢false (sym h))
layer_is (layer.Event n) (layer.Event m) h = ap layer.Event (eqb-true n m h)
layer_is (layer.Event n) u h = absurd (true≢false (sym h))
layer_is layer.Context layer.Context h = refl
layer_is layer.Context u h = absurd (true≢false (sym h))
layer_is layer.Listener layer.Listener h = refl
layer_is layer.Listener u h = absurd (true≢false (sym h))

is_case : (x : Shape-F Shape) (y : Shape-F Known) → shapes y ≡ x → Is (roll-Shape x)
is_case x y is = subst (λ (z : Shape-F Shape). Is (roll-Shape z)) is (λ t h. ap roll-Shape (layer_is y (out-Shape t) (sym (same_roll (shapes y) t) ∙ h)) ∙ roll-out-Shape t)

pub same_is : (s t : Shape) → same s t ≡ true → s ≡ t
same_is = ind-Shape Is is_case

abbrev Self : Shape → Type 0
Self s = same s s ≡ true

abbrev Own : Type 0
Own = (s : Shape) × Self s

abbrev own_shapes : Shape-F Own → Shape-F Shape
own_shapes y = map-Shape Own Shape (λ e. e.0) y

layer_self : (y : Shape-F Own) → same_layer (map-Shape Shape (Shape → Bool) same (own_shapes y)) (own_shapes y) ≡ true
layer_self layer.Integer = refl
layer_self layer.Boolean = refl
layer_self layer.Text = refl
layer_self (layer.Sequence item) = item.1
layer_self (layer.Dictionary key value) = and_from (same key.0 key.0) (same value.0 value.0) key.1 value.1
layer_self (layer.Event n) = eq-eqb n n refl
layer_self layer.Context = refl
layer_self layer.Listener = refl

self_case : (x : Shape-F Shape) (y : Shape-F Own) → own_shapes y ≡ x → Self (roll-Shape x)
self_case x y is = subst (λ (z : Shape-F Shape). Self (roll-Shape z)) is (same_roll (own_shapes y) (roll-Shape (own_shapes y)) ∙ ap (λ (u : Shape-F Shape). same_layer (map-Shape Shape (Shape → Bool) same (own_shapes y)) u) (out-roll-Shape (own_shapes y)) ∙ layer_self y)

pub same_self : (s : Shape) → same s s ≡ true
same_self = ind-Shape Self self_case
