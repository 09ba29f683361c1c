-- A get sends what the last accepted set of its block brought, in a whole run too. Assumes nothing.
use mathlib.Core.Path.{◌≡◌, sym, ap, ◌∙◌}
use mathlib.Core.List.{List, [], ◌∷◌, ◌++◌, append_assoc}
use Prim.Native.Nat.{ℕ, ◌≤◌}
use native.Mathlib.Omega.{arith}
use lib.ListN.{length, length-take, length-drop}
use Rattle.wire.specs.Layout.{sum}
use Rattle.frame.specs.Frame.{data_in}
use Rattle.sheet.specs.Rows.{row_at, widths, total, canonical}
use Rattle.table.specs.Table.{data_at}
use Rattle.table.proofs.Keep.{get_same}
use Rattle.rule.specs.Run.{Item}
use Rattle.rule.specs.Framing.{Token, whole, units_of}
use Rattle.rule.specs.Rule.{Said, deal, whole_run}
use Rattle.rule.proofs.Said.{deal_append}
use Rattle.rule.proofs.Whole.{whole_long}
use Rattle.names.specs.Names.{kind_at, span, need}
use Rattle.orders.specs.declared.Order.{Order}
use Rattle.names.specs.declared.Kind.TheVariants.{Get}
use Rattle.names.proofs.Lengths.{set_total}
use Rattle.names.proofs.Need.{need_kind, need_law}
use Rattle.names.proofs.Named.{get_unit}
use Rattle.unit.specs.Unit.{Event, gets, does, act}
use Rattle.unit.specs.Protocol.{protocol}
use Rattle.unit.specs.declared.Memory.{Memory}
use Rattle.unit.proofs.Replies.{act_kind}
use Rattle.unit.specs.Kept.{Accepts, Echoed, Without, get_reply}
use Rattle.unit.proofs.Kept.{accepted, echoed, kept}

-- ---- gets

-- a get of block k sends what the block holds, and alters nothing
pub got : (m : Memory) (g : List ℕ) (k : ℕ) → kind_at g ≡ Get k
    → act m (whole g) ≡ record { reply = get_reply k (data_at m.settings k); orders = []; next = m }
unfolding does gets
got m g k e = act_kind m g (Get k) e ∙ ap (λ (n : ℕ). gets m n k) (get_unit g k e)

-- ---- DEMAND 2: "After an accepted set, the get of that block returns the same fields, reserved bytes zero, until the next accepted set of that block"

-- what an accepted set leaves in its block, and what is there until the next one
pub set_leaves : (m : Memory) (u : List ℕ) (k : ℕ) → length u ≡ total (row_at k) → Accepts m u k
    → data_at (act m (whole u)).next.settings k ≡ canonical (row_at k) (data_in u)
set_leaves m u k l a =
    let long : sum (widths (row_at k)) ≤ length (data_in u) = simp (length-take, length-drop) (omega arith) in
    ap (λ (x : Said Order Memory). data_at x.next.settings k) (accepted m u k a)
    ∙ get_same m.settings k (data_in u) long

pub held_after_set : (m : Memory) (u : List ℕ) (k : ℕ) (ks : List (Token Event)) → length u ≡ total (row_at k)
    → Accepts m u k → Without k (act m (whole u)).next ks
    → data_at (deal protocol (act m (whole u)).next ks).next.settings k ≡ canonical (row_at k) (data_in u)
held_after_set m u k ks l a w = kept k ks (act m (whole u)).next w ∙ set_leaves m u k l a

pub get_after_set : (m : Memory) (u : List ℕ) (k : ℕ) (ks : List (Token Event)) (g : List ℕ) → length u ≡ total (row_at k)
    → Accepts m u k → Without k (act m (whole u)).next ks → kind_at g ≡ Get k
    → (act (deal protocol (act m (whole u)).next ks).next (whole g)).reply ≡ get_reply k (canonical (row_at k) (data_in u))
get_after_set m u k ks g l a w e =
    ap (λ (x : Said Order Memory). x.reply) (got (deal protocol (act m (whole u)).next ks).next g k e)
    ∙ ap (get_reply k) (held_after_set m u k ks l a w)

-- ---- the same over a whole run

-- a get in a run: behind what is said before it stands its reply, and behind that what is said after it, from the same memory
pub run_got : (m₀ : Memory) (t : ℕ) (r : List (Item Event)) (before after : List (Token Event)) (g : List ℕ) (k : ℕ)
    → (units_of protocol.cuts protocol.need r).tokens ≡ before ++ (whole g ∷ after) → kind_at g ≡ Get k
    → let x = deal protocol m₀ before in
    (whole_run protocol m₀ t r).reply ≡ x.reply ++ (get_reply k (data_at x.next.settings k) ++ (deal protocol x.next after).reply)
unfolding whole_run deal
run_got m₀ t r before after g k cut e =
    let x = deal protocol m₀ before in
    ap (λ (ks : List (Token Event)). (deal protocol m₀ ks).reply) cut
    ∙ ap (λ (y : Said Order Memory). y.reply) (deal_append protocol before (whole g ∷ after) m₀)
    ∙ ap (λ (y : Said Order Memory). x.reply ++ (y.reply ++ (deal protocol y.next after).reply)) (got x.next g k e)

-- "Set: the unit is the total length of its block"
accepts_long : (m : Memory) (u : List ℕ) (k : ℕ) → Accepts m u k → need u ≡ length u → length u ≡ total (row_at k)
accepts_long m u k a e = sym e ∙ need_kind u (omega arith) ∙ ap span a.kind ∙ set_total k

-- in a run: the set u, which was echoed, then the get g of its block with no echoed set of the block between them
pub run_get_after_set : (m₀ : Memory) (t : ℕ) (r : List (Item Event)) (before between after : List (Token Event)) (u g : List ℕ) (k : ℕ)
    → (units_of protocol.cuts protocol.need r).tokens ≡ before ++ (whole u ∷ between ++ (whole g ∷ after))
    → let m = (deal protocol m₀ before).next in Echoed m u k → Without k (act m (whole u)).next between
    → kind_at g ≡ Get k
    → let x = deal protocol m₀ (before ++ (whole u ∷ between)) in
    (whole_run protocol m₀ t r).reply ≡ x.reply ++ (get_reply k (canonical (row_at k) (data_in u)) ++ (deal protocol x.next after).reply)
unfolding deal
run_get_after_set m₀ t r before between after u g k cut h w e =
    let m = (deal protocol m₀ before).next in
    let a = echoed m u k h in
    let x = deal protocol m₀ (before ++ (whole u ∷ between)) in
    let behind = between ++ (whole g ∷ after) in
    let long = accepts_long m u k a (whole_long protocol.cuts protocol.need need_law r before behind u cut) in
    let reached = ap (λ (y : Said Order Memory). data_at y.next.settings k) (deal_append protocol before (whole u ∷ between) m₀) in
    run_got m₀ t r (before ++ (whole u ∷ between)) after g k (cut ∙ sym (append_assoc before (whole u ∷ between) (whole g ∷ after))) e
    ∙ ap (λ (d : List ℕ). x.reply ++ (get_reply k d ++ (deal protocol x.next after).reply)) (reached ∙ held_after_set m u k between long a w)
