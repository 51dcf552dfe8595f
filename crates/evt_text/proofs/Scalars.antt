-- The order of scalars is that of their kind, and less and greater hold within a kind alone.
use Rattle.std.proofs.Common.{◌≡◌}
use Rattle.evt_text.proofs.Common.{Bool, true, false, refl, ap, ◌∙◌, Ordering, Less, Greater, Scalar, scalar_cmp}
use Rattle.std.specs.Cmp.{IsTotalOrder}
use Rattle.std.specs.Ordering.{int_cmp, ordering_reverse}
use Rattle.std.proofs.lemmas.Cmp.{int_cmp_total, nat_list_cmp_total}
use Rattle.epl_values.specs.Order.{Number, Truth, Letters, bool_cmp}

-- of two total orders' facts, the third
total_turned : {K : Type 0} (R : K → K → Ordering) → IsTotalOrder R → (a b : K) → R a b ≡ Greater → R b a ≡ Less
total_turned R o a b h = o.antisymm b a ∙ ap ordering_reverse h

bool_trans : (a b c : Bool) → bool_cmp a b ≡ Less → bool_cmp b c ≡ Less → bool_cmp a c ≡ Less
bool_trans false false c ab bc = cc
bool_trans false true false ab bc = cc
bool_trans false true true ab bc = cc
bool_trans true false c ab bc = cc
bool_trans true true c ab bc = cc

bool_turned : (a b : Bool) → bool_cmp a b ≡ Greater → bool_cmp b a ≡ Less
bool_turned false false h = cc
bool_turned false true h = cc
bool_turned true false h = refl
bool_turned true true h = cc

pub less_less : (a b c : Scalar) → scalar_cmp a b ≡ Less → scalar_cmp b c ≡ Less → scalar_cmp a c ≡ Less
less_less (Number a) (Number b) (Number c) ab bc = int_cmp_total.trans a b c ab bc
less_less (Truth a) (Truth b) (Truth c) ab bc = bool_trans a b c ab bc
less_less (Letters a) (Letters b) (Letters c) ab bc = nat_list_cmp_total.trans a b c ab bc
less_less a b c ab bc = cc

pub turned : (a b : Scalar) → scalar_cmp a b ≡ Greater → scalar_cmp b a ≡ Less
turned (Number a) (Number b) h = total_turned int_cmp int_cmp_total a b h
turned (Truth a) (Truth b) h = bool_turned a b h
turned (Letters a) (Letters b) h = total_turned _ nat_list_cmp_total a b h
turned a b h = cc
