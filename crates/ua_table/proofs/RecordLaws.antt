-- Records of a closure: what one more keeps.
use Rattle.std.proofs.Common.{◌≡◌, ℕ, zero, suc, ◌<◌, ◌≤◌, List, [], ◌∷◌, ◌++◌, length, take, refl, sym, ap, subst, arith, Some, append_assoc}
use Rattle.std.specs.Prelude.{slice_get, slice_index}
use Rattle.std.specs.List.{zip}
use Rattle.std.proofs.lemmas.List.{append-nil, map-append, length-map}
use Rattle.ua_table.specs.declared.origins.Origin.{Origin}
use Rattle.ua_table.specs.declared.origins.Origin.TheVariants.{Gen, Op}
use Rattle.ua_table.specs.Algebras.{Vector, Product}
use Rattle.ua_table.specs.Origins.{IsOrigin}
use Rattle.ua_table.specs.Orders.{Record, IsNext, IsSerialFrom, IsSerial, rows_of, IsNew, AreRecordsFrom, AreRecords}
use Rattle.ua_table.proofs.Lists.{all_weaker}

pub rows_of-append : (xs ys : List Record) → rows_of (xs ++ ys) ≡ rows_of xs ++ rows_of ys
rows_of-append xs ys = map-append (λ (r : Record). r.0) xs ys

pub length-rows_of : (rs : List Record) → length (rows_of rs) ≡ length rs
length-rows_of rs = length-map rs (λ (r : Record). r.0)

-- one more record
records_push : (p : Product) (gens earlier : List Vector) (rs : List Record) (r : Record) → AreRecordsFrom p gens earlier rs → IsNew p gens (earlier ++ rows_of rs) r → AreRecordsFrom p gens earlier (rs ++ r ∷ [])
records_push p gens earlier [] r h new = (subst (λ (rows : List Vector). IsNew p gens rows r) (append-nil earlier) new, tt)
records_push p gens earlier (s ∷ rs) r h new =
    (h.0, records_push p gens (earlier ++ s.0 ∷ []) rs r h.1 (subst (λ (rows : List Vector). IsNew p gens rows r) (sym (append_assoc earlier (s.0 ∷ []) (rows_of rs))) new))

pub AreRecords-push : (p : Product) (gens : List Vector) (rs : List Record) (r : Record) → AreRecords p gens rs → IsNew p gens (rows_of rs) r → AreRecords p gens (rs ++ r ∷ [])
AreRecords-push p gens rs r h new = records_push p gens [] rs r h new

-- one more record that is the next
serial_push : (p : Product) (gens earlier : List Vector) (rs : List Record) (r : Record) → IsSerialFrom p gens earlier rs → IsNext p gens (earlier ++ rows_of rs) r → IsSerialFrom p gens earlier (rs ++ r ∷ [])
serial_push p gens earlier [] r h new = (subst (λ (rows : List Vector). IsNext p gens rows r) (append-nil earlier) new, tt)
serial_push p gens earlier (s ∷ rs) r h new =
    (h.0, serial_push p gens (earlier ++ s.0 ∷ []) rs r h.1 (subst (λ (rows : List Vector). IsNext p gens rows r) (sym (append_assoc earlier (s.0 ∷ []) (rows_of rs))) new))

pub IsSerial-push : (p : Product) (gens : List Vector) (rs : List Record) (r : Record) → IsSerial p gens rs → IsNext p gens (rows_of rs) r → IsSerial p gens (rs ++ r ∷ [])
IsSerial-push p gens rs r h new = serial_push p gens [] rs r h new

-- a record is new after those before it
record_from : (p : Product) (gens earlier : List Vector) (rs : List Record) (k : ℕ) (r : Record) → AreRecordsFrom p gens earlier rs → slice_get rs k ≡ Some r → IsNew p gens (earlier ++ take k (rows_of rs)) r
record_from p gens earlier [] k r h e = cc
record_from p gens earlier (s ∷ rs) zero r h e =
    let same : s ≡ r = cc in
    let nil : earlier ≡ earlier ++ [] = sym (append-nil earlier) in
    subst (λ (t : Record). IsNew p gens (earlier ++ []) t) same (subst (λ (ws : List Vector). IsNew p gens ws s) nil h.0)
record_from p gens earlier (s ∷ rs) (suc k) r h e =
    subst (λ (ws : List Vector). IsNew p gens ws r) (append_assoc earlier (s.0 ∷ []) (take k (rows_of rs))) (record_from p gens (earlier ++ s.0 ∷ []) rs k r h.1 e)

pub record_at : (p : Product) (gens : List Vector) (rs : List Record) (k : ℕ) (r : Record) → AreRecords p gens rs → slice_get rs k ≡ Some r → IsNew p gens (take k (rows_of rs)) r
record_at p gens rs k r h e = record_from p gens [] rs k r h e

-- an origin over some rows is one over more
pub IsOrigin-more : (ks : List ℕ) (gens n m : ℕ) (o : Origin) → n ≤ m → IsOrigin ks gens n o → IsOrigin ks gens m o
IsOrigin-more ks gens n m (Gen i) h k = k
IsOrigin-more ks gens n m (Op f args) h k = record { operation = k.operation; count = k.count; earlier = all_weaker (λ a. a < n) (λ a. a < m) (λ a low. omega (arith, low, h)) (take (slice_index ks f) args) k.earlier; unused = k.unused }

-- the rows of pairs, and pairs of as many as there are rows
pub rows_zip : (vs : List Vector) (os : List Origin) → length vs ≤ length os → rows_of (zip vs os) ≡ vs
rows_zip [] os e = refl
rows_zip (w ∷ ws) [] e = absurd (omega (arith, e))
rows_zip (w ∷ ws) (x ∷ xs) e = ap (λ (l : List Vector). w ∷ l) (rows_zip ws xs (omega (arith, e)))

-- the pairs with as many of the second list are all pairs
pub zip_enough : (rows : List Vector) (os : List Origin) → zip rows (take (length rows) os) ≡ zip rows os
zip_enough [] os = refl
zip_enough (v ∷ rows) [] = refl
zip_enough (v ∷ rows) (o ∷ os) = ap (λ (l : List Record). (v, o) ∷ l) (zip_enough rows os)
