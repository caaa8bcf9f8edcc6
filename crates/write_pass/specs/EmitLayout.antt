-- What the pass leaves in the buffer is the layout, where the message is no longer than the size.
use Rattle.std.specs.Prelude.{◌≡◌}
use Rattle.std.proofs.Math.Path.{refl, sym, subst}
use Rattle.std.proofs.Common.{ap, ◌∙◌, pow-suc, take_all}
use mathlib.Core.List.{List, ◌++◌}
use Prim.Native.Nat.{ℕ, suc, zero, ◌+◌, ◌*◌, ◌-◌, ◌^◌, ◌≤◌, ◌<◌}
use native.Mathlib.Omega.{arith}
use Rattle.std.proofs.Math.ListN.{length, get_or, take, set, length-set}
use Rattle.std.proofs.Math.Seq.{sets, length-sets, get_or-set_same, get_or-set_other}
use Rattle.coding.specs.Bytes.{le_bytes, largest}
use Rattle.coding.specs.Cells.{width, chain, below, width_bytes, chain_bytes, below_bytes, layout, Slots, gather, pack_bits}
use Rattle.coding.specs.Cells.Slots.{end, bytes, bit, reference, in_place, part}
use Rattle.write_measure.specs.Survey.{capped}
use Rattle.write_measure.specs.Summed.{capped_in}
use Rattle.write_measure.specs.SlotSizes.{length-le_bytes}
use Rattle.write_pass.specs.CellLengths.{length-width_bytes, length-chain_bytes, length-below_bytes, length-layout}
use Rattle.write_store.specs.Stores.{Holds, Same, holds_same, holds-append, holds-take, sets-before, sets-after, sets_holds}
use Rattle.write_store.specs.State.{State, put_bytes, put_bit_at, put_bit, enter_object, leave_object, enter_content, leave_content, enter_part, leave_part}
use Rattle.write_pass.specs.Emit.{emit_slots}

-- ---- the last bool byte, while it has free bits: it lies before the next byte; it is not to be kept; it gets the bits to come
abbrev LastOk : List ℕ → ℕ → ℕ → ℕ → ℕ → Type 0
LastOk m zero l h p = Unit {0}
LastOk m (suc f) l h p = (l < p) × (f ≤ 7) × (get_or m l 0 ≡ h)

abbrev Kept : ℕ → ℕ → ℕ → Type 0
Kept zero l i = Unit {0}
Kept (suc f) l i = i ≡ l → ⊥

abbrev LastIs : List ℕ → ℕ → ℕ → ℕ → Slots → Type 0
LastIs m zero l h t = Unit {0}
LastIs m (suc f) l h t = get_or m l 0 ≡ h + 2 ^ (7 - f) * gather (suc f) t

gather-zero : (t : Slots) → gather 0 t ≡ 0
unfolding gather
gather-zero end = refl
gather-zero (bytes bs t) = gather-zero t
gather-zero (bit x t) = refl
gather-zero (reference k t) = gather-zero t
gather-zero (in_place k t) = gather-zero t
gather-zero (part k t) = gather-zero t

last-same : (m : List ℕ) (f l h : ℕ) (t u : Slots) → gather f t ≡ gather f u → LastIs m f l h t → LastIs m f l h u
last-same m zero l h t u g e = tt
last-same m (suc f) l h t u g e = e ∙ ap (λ (n : ℕ). h + 2 ^ (7 - f) * n) g

last_more : (m m1 : List ℕ) (f l h p q : ℕ) → p ≤ q → ((i : ℕ) → i < p → get_or m1 i 0 ≡ get_or m i 0) → LastOk m f l h p → LastOk m1 f l h q
last_more m m1 zero l h p q a b k = tt
last_more m m1 (suc f) l h p q a b k = let x = k.0 in (omega arith, k.1, b l x ∙ k.2)

last_bit : (m : List ℕ) (f l h x : ℕ) (t : Slots) → f ≤ 7 → (f ≡ 0 → get_or m l 0 ≡ h + x * 2 ^ (7 - f)) → LastIs m f l (h + x * 2 ^ (7 - f)) t
    → LastIs m (suc f) l h (bit x t)
unfolding gather
last_bit m zero l h x t le k e =
    let z = gather-zero t in
    let y = k refl in
    omega arith
last_bit m (suc g) l h x t le k e =
    let q : 7 - g ≡ suc (7 - suc g) = omega arith in
    let pw : 2 ^ (7 - g) ≡ 2 ^ (7 - suc g) * 2 = ap (λ (n : ℕ). 2 ^ n) q ∙ pow-suc 2 (7 - suc g) in
    let y = ap (λ (n : ℕ). n * gather (suc g) t) pw in
    omega arith

keep : (m : List ℕ) (f l h p i : ℕ) → LastOk m f l h p → p ≤ i → Kept f l i
keep m zero l h p i k a = tt
keep m (suc f) l h p i k a = let x = k.0 in λ q. omega arith

keep_ne : (f l i : ℕ) → (i ≡ l → ⊥) → Kept f l i
keep_ne zero l i h = tt
keep_ne (suc f) l i h = h

kept-zero : (f l i : ℕ) → f ≡ 0 → Kept f l i
kept-zero zero l i z = tt
kept-zero (suc f) l i z = absurd (omega arith)

-- the byte that a bit was added to
last_next : (m m1 : List ℕ) (f l h h1 p : ℕ) → get_or m1 l 0 ≡ h1 → LastOk m (suc f) l h p → LastOk m1 f l h1 p
last_next m m1 zero l h h1 p e k = tt
last_next m m1 (suc f) l h h1 p e k = let x = k.1 in (k.0, omega arith, e)

last_end : (m : List ℕ) (f l h p : ℕ) → LastOk m f l h p → LastIs m f l h end
unfolding gather
last_end m zero l h p k = tt
last_end m (suc f) l h p k = let x = k.2 in omega arith

module _ (o : ℕ) where
  -- what the pass has done: the three runs stand there, and all else is as it was
  pub record Done (m m' : List ℕ) (p l f h e s : ℕ) (t : Slots) : Type 0 where
    pub len : length m' ≡ length m
    pub own : Holds m' p (width_bytes o s (pack_bits f t))
    pub inner : Holds m' e (chain_bytes o s (pack_bits f t))
    pub under : Holds m' s (below_bytes o s (pack_bits f t))
    pub last : LastIs m' f l h t
    pub before : (i : ℕ) → i < p → Kept f l i → get_or m' i 0 ≡ get_or m i 0
    pub gap : (i : ℕ) → p + width o (pack_bits f t) ≤ i → i < e → get_or m' i 0 ≡ get_or m i 0
    pub gap2 : (i : ℕ) → e + chain o (pack_bits f t) ≤ i → i < s → get_or m' i 0 ≡ get_or m i 0
    pub after : (i : ℕ) → s + below o (pack_bits f t) ≤ i → get_or m' i 0 ≡ get_or m i 0

  module _ (m m2 : List ℕ) (p l f g e s : ℕ) (bs : List ℕ) (t : Slots) (k : LastOk m f l g p)
      (a : p + width o (pack_bits f (bytes bs t)) ≤ e) (b : e + chain o (pack_bits f t) ≤ s) (d : s + below o (pack_bits f t) ≤ length m)
      (h : Done (sets m p bs) m2 (p + length bs) l f g e s t) where
    done_bytes : Done m m2 p l f g e s (bytes bs t)
    unfolding pack_bits width_bytes chain_bytes below_bytes width chain below gather
    done_bytes =
        let m1 = sets m p bs in
        record {
          len = h.len ∙ length-sets m p bs;
          own = holds-append m2 p bs (width_bytes o s (pack_bits f t))
              (holds_same m1 m2 p bs h.len (λ i x y. h.before i (omega arith) (keep m f l g p i k x)) (sets_holds m p bs (omega arith))) h.own;
          inner = h.inner;
          under = h.under;
          last = last-same m2 f l g t (bytes bs t) refl h.last;
          before = λ i x q. h.before i (omega arith) q ∙ sets-before m p bs i x;
          gap = λ i x y. h.gap i (omega arith) y ∙ sets-after m p bs i (omega arith);
          gap2 = λ i x y. h.gap2 i x y ∙ sets-after m p bs i (omega arith);
          after = λ i x. h.after i x ∙ sets-after m p bs i (omega arith);
        }

  module _ (m m2 : List ℕ) (p l e s v : ℕ) (t : Slots)
      (a : p + (1 + width o (pack_bits 7 t)) ≤ e) (b : e + chain o (pack_bits 7 t) ≤ s) (d : s + below o (pack_bits 7 t) ≤ length m)
      (g : ℕ) (h : Done (set m p v) m2 (p + 1) p 7 v e s t) where
    done_new : Done m m2 p l 0 g e s (bit v t)
    unfolding pack_bits width_bytes chain_bytes below_bytes width chain below gather
    done_new =
        let m1 = set m p v in
        let x1 = h.last in
        let other : (i : ℕ) → (i ≡ p → ⊥) → get_or m1 i 0 ≡ get_or m i 0 = λ i n. get_or-set_other m p i v 0 n in
        let w1 = h.own in
        let e1 : p + 1 ≡ suc p = omega arith in
        record {
          len = h.len ∙ length-set m p v;
          own = (omega arith, subst (λ (k : ℕ). Holds m2 k (width_bytes o s (pack_bits 7 t))) e1 w1);
          inner = h.inner;
          under = h.under;
          last = tt;
          before = λ i x k. h.before i (omega arith) (λ q. omega arith) ∙ other i (λ q. omega arith);
          gap = λ i x y. h.gap i (omega arith) y ∙ other i (λ q. omega arith);
          gap2 = λ i x y. h.gap2 i x y ∙ other i (λ q. omega arith);
          after = λ i x. h.after i x ∙ other i (λ q. omega arith);
        }

  module _ (m m2 : List ℕ) (p l f g e s v : ℕ) (t : Slots) (k : LastOk m (suc f) l g p)
      (a : p + width o (pack_bits f t) ≤ e) (b : e + chain o (pack_bits f t) ≤ s) (d : s + below o (pack_bits f t) ≤ length m) where
    done_old : Done (set m l (g + v * 2 ^ (7 - f))) m2 p l f (g + v * 2 ^ (7 - f)) e s t → Done m m2 p l (suc f) g e s (bit v t)
    unfolding pack_bits
    done_old h =
        let n = g + v * 2 ^ (7 - f) in
        let m1 = set m l n in
        let lp = k.0 in
        let other : (i : ℕ) → (i ≡ l → ⊥) → get_or m1 i 0 ≡ get_or m i 0 = λ i q. get_or-set_other m l i n 0 q in
        let same = get_or-set_same m l n 0 (omega arith) in
        record {
          len = h.len ∙ length-set m l n;
          own = h.own;
          inner = h.inner;
          under = h.under;
          last = last_bit m2 f l g v t k.1 (λ z. h.before l lp (kept-zero f l l z) ∙ same) h.last;
          before = λ i x q. h.before i x (keep_ne f l i q) ∙ other i q;
          gap = λ i x y. h.gap i x y ∙ other i (λ q. omega arith);
          gap2 = λ i x y. h.gap2 i x y ∙ other i (λ q. omega arith);
          after = λ i x. h.after i x ∙ other i (λ q. omega arith);
        }

  module _ (m m2 m3 : List ℕ) (p l f g e s : ℕ) (k t : Slots) (ok : LastOk m f l g p)
      (a : p + (o + width o (pack_bits f t)) ≤ e) (b : e + chain o (pack_bits f t) ≤ s)
      (d : s + (width o (pack_bits 0 k) + chain o (pack_bits 0 k) + below o (pack_bits 0 k) + below o (pack_bits f t)) ≤ length m)
      (hk : Done (sets m p (le_bytes o s)) m2 s 0 0 0 (s + width o (pack_bits 0 k)) (s + (width o (pack_bits 0 k) + chain o (pack_bits 0 k))) k)
      (hc : Done m2 m3 (p + o) l f g e (s + (width o (pack_bits 0 k) + chain o (pack_bits 0 k) + below o (pack_bits 0 k))) t) where
    done_reference : Done m m3 p l f g e s (reference k t)
    unfolding pack_bits width_bytes chain_bytes below_bytes width chain below gather
    done_reference =
        let kc = pack_bits 0 k in
        let s' = s + (width o kc + chain o kc) in
        let r = s + (width o kc + chain o kc + below o kc) in
        let c = pack_bits f t in
        let lu = length-le_bytes o s in
        let m1 = sets m p (le_bytes o s) in
        let l1 = length-sets m p (le_bytes o s) in
        let wk = width_bytes o s' kc in
        let ck = chain_bytes o s' kc in
        let bk = below_bytes o s' kc in
        let lw = length-width_bytes o s' kc in
        let lc = length-chain_bytes o s' kc in
        let lb = length-below_bytes o s' kc in
        let e1 : s + length wk ≡ s + width o kc = omega arith in
        let e2 : s + width o kc + length ck ≡ s' = omega arith in
        let e3 : s' + length bk ≡ r = omega arith in
        let kept : Same m2 m3 s (width o kc + chain o kc + below o kc) = λ i x y. hc.gap2 i (omega arith) (omega arith) in
        let w1 = holds_same m2 m3 s wk hc.len (λ i x y. kept i (omega arith) (omega arith)) hk.own in
        let w2 = holds_same m2 m3 (s + width o kc) ck hc.len (λ i x y. kept i (omega arith) (omega arith)) hk.inner in
        let w3 = holds_same m2 m3 s' bk hc.len (λ i x y. kept i (omega arith) (omega arith)) hk.under in
        let u3 = holds-append m3 s' bk (below_bytes o r c) w3 (rw e3 hc.under) in
        let u2 = holds-append m3 (s + width o kc) ck (bk ++ below_bytes o r c) w2 (rw e2 u3) in
        let u1 = holds-append m3 s wk (ck ++ (bk ++ below_bytes o r c)) w1 (rw e1 u2) in
        let v1 = sets_holds m p (le_bytes o s) (omega arith) in
        let v2 = holds_same m1 m2 p (le_bytes o s) hk.len (λ i x y. hk.before i (omega arith) tt) v1 in
        let v3 = holds_same m2 m3 p (le_bytes o s) hc.len (λ i x y. hc.before i (omega arith) (keep m f l g p i ok x)) v2 in
        record {
          len = hc.len ∙ hk.len ∙ l1;
          own = holds-append m3 p (le_bytes o s) (width_bytes o r c) v3 (rw lu hc.own);
          inner = hc.inner;
          under = u1;
          last = last-same m3 f l g t (reference k t) refl hc.last;
          before = λ i x q. hc.before i (omega arith) q ∙ hk.before i (omega arith) tt ∙ sets-before m p (le_bytes o s) i x;
          gap = λ i x y. hc.gap i (omega arith) y ∙ hk.before i (omega arith) tt ∙ sets-after m p (le_bytes o s) i (omega arith);
          gap2 = λ i x y. hc.gap2 i x (omega arith) ∙ hk.before i y tt ∙ sets-after m p (le_bytes o s) i (omega arith);
          after = λ i x. hc.after i (omega arith) ∙ hk.after i (omega arith) ∙ sets-after m p (le_bytes o s) i (omega arith);
        }

  module _ (m m1 m2 : List ℕ) (p l f g e s : ℕ) (k t : Slots) (ok : LastOk m f l g p)
      (a : p + width o (pack_bits f t) ≤ e) (b : e + (width o (pack_bits 0 k) + chain o (pack_bits 0 k) + chain o (pack_bits f t)) ≤ s)
      (d : s + (below o (pack_bits 0 k) + below o (pack_bits f t)) ≤ length m)
      (hk : Done m m1 e 0 0 0 (e + width o (pack_bits 0 k)) s k)
      (hc : Done m1 m2 p l f g (e + width o (pack_bits 0 k) + chain o (pack_bits 0 k)) (s + below o (pack_bits 0 k)) t) where
    done-in_place : Done m m2 p l f g e s (in_place k t)
    unfolding pack_bits width_bytes chain_bytes below_bytes width chain below gather
    done-in_place =
        let kc = pack_bits 0 k in
        let c = pack_bits f t in
        let r = s + below o kc in
        let e' = e + width o kc + chain o kc in
        let wk = width_bytes o s kc in
        let ck = chain_bytes o s kc in
        let bk = below_bytes o s kc in
        let lw = length-width_bytes o s kc in
        let lc = length-chain_bytes o s kc in
        let lb = length-below_bytes o s kc in
        let w1 = holds_same m1 m2 e wk hc.len (λ i x y. hc.gap i (omega arith) (omega arith)) hk.own in
        let w2 = holds_same m1 m2 (e + width o kc) ck hc.len (λ i x y. hc.gap i (omega arith) (omega arith)) hk.inner in
        let w3 = holds_same m1 m2 s bk hc.len (λ i x y. hc.gap2 i (omega arith) (omega arith)) hk.under in
        let u2 = holds-append m2 (e + width o kc) ck (chain_bytes o r c) w2 (rw lc hc.inner) in
        record {
          len = hc.len ∙ hk.len;
          own = hc.own;
          inner = holds-append m2 e wk (ck ++ chain_bytes o r c) w1 (rw lw u2);
          under = holds-append m2 s bk (below_bytes o r c) w3 (rw lb hc.under);
          last = last-same m2 f l g t (in_place k t) refl hc.last;
          before = λ i x q. hc.before i x q ∙ hk.before i (omega arith) tt;
          gap = λ i x y. hc.gap i x (omega arith) ∙ hk.before i y tt;
          gap2 = λ i x y. hc.gap2 i (omega arith) (omega arith) ∙ hk.gap2 i (omega arith) y;
          after = λ i x. hc.after i (omega arith) ∙ hk.after i (omega arith);
        }

  module _ (m m1 m2 : List ℕ) (p l f g e s : ℕ) (k t : Slots) (ok : LastOk m f l g p)
      (a : p + (width o (pack_bits 0 k) + width o (pack_bits f t)) ≤ e) (b : e + (chain o (pack_bits 0 k) + chain o (pack_bits f t)) ≤ s)
      (d : s + (below o (pack_bits 0 k) + below o (pack_bits f t)) ≤ length m)
      (hk : Done m m1 p 0 0 0 e s k)
      (hc : Done m1 m2 (p + width o (pack_bits 0 k)) l f g (e + chain o (pack_bits 0 k)) (s + below o (pack_bits 0 k)) t) where
    done-part : Done m m2 p l f g e s (part k t)
    unfolding pack_bits width_bytes chain_bytes below_bytes width chain below gather
    done-part =
        let kc = pack_bits 0 k in
        let c = pack_bits f t in
        let r = s + below o kc in
        let wk = width_bytes o s kc in
        let ck = chain_bytes o s kc in
        let bk = below_bytes o s kc in
        let lw = length-width_bytes o s kc in
        let lc = length-chain_bytes o s kc in
        let lb = length-below_bytes o s kc in
        let w1 = holds_same m1 m2 p wk hc.len (λ i x y. hc.before i (omega arith) (keep m f l g p i ok x)) hk.own in
        let w2 = holds_same m1 m2 e ck hc.len (λ i x y. hc.gap i (omega arith) (omega arith)) hk.inner in
        let w3 = holds_same m1 m2 s bk hc.len (λ i x y. hc.gap2 i (omega arith) (omega arith)) hk.under in
        record {
          len = hc.len ∙ hk.len;
          own = holds-append m2 p wk (width_bytes o r c) w1 (rw lw hc.own);
          inner = holds-append m2 e ck (chain_bytes o r c) w2 (rw lc hc.inner);
          under = holds-append m2 s bk (below_bytes o r c) w3 (rw lb hc.under);
          last = last-same m2 f l g t (part k t) refl hc.last;
          before = λ i x q. hc.before i (omega arith) q ∙ hk.before i x tt;
          gap = λ i x y. hc.gap i (omega arith) (omega arith) ∙ hk.gap i (omega arith) y;
          gap2 = λ i x y. hc.gap2 i (omega arith) (omega arith) ∙ hk.gap2 i (omega arith) y;
          after = λ i x. hc.after i (omega arith) ∙ hk.after i (omega arith);
        }

  done_end : (m : List ℕ) (p l f g e s : ℕ) → LastOk m f l g p → p ≤ e → e ≤ s → s ≤ length m → Done m m p l f g e s end
  unfolding pack_bits width_bytes chain_bytes below_bytes width chain below
  done_end m p l f g e s k a b d =
      record {
        len = refl;
        own = omega arith;
        inner = omega arith;
        under = omega arith;
        last = last_end m f l g p k;
        before = λ i h q. refl;
        gap = λ i h q. refl;
        gap2 = λ i h q. refl;
        after = λ i h. refl;
      }

  -- ---- the pass
  abbrev pub state : ℕ → ℕ → ℕ → ℕ → ℕ → ℕ → List ℕ → State
  state p l f g e s m = record { at = p; last = l; free = f; held = g; tail = e; next = s; out = m }

  pub record Emitted (p l f g e s : ℕ) (m : List ℕ) (st : State) (t : Slots) : Type 0 where
    pub done : Done m st.out p l f g e s t
    pub at : st.at ≡ p + width o (pack_bits f t)
    pub tail : st.tail ≡ e + chain o (pack_bits f t)
    pub next : st.next ≡ s + below o (pack_bits f t)

  pub emitted : (p l f g e s : ℕ) (m : List ℕ) (t : Slots) → length m ≤ largest → LastOk m f l g p → p + width o (pack_bits f t) ≤ e
      → e + chain o (pack_bits f t) ≤ s → s + below o (pack_bits f t) ≤ length m → Emitted p l f g e s m (emit_slots o (state p l f g e s m) t) t
  unfolding emit_slots pack_bits width chain below put_bytes put_bit put_bit_at enter_object leave_object enter_content leave_content enter_part leave_part
  emitted p l f g e s m end big k a b d = record { done = done_end m p l f g e s k (omega arith) (omega arith) (omega arith); at = omega arith; tail = omega arith; next = omega arith }
  emitted p l f g e s m (bytes bs t) big k a b d =
      let len = length-sets m p bs in
      let h = emitted (p + length bs) l f g e s (sets m p bs) t (omega arith)
      (last_more m (sets m p bs) f l g p (p + length bs) (omega arith) (λ i x. sets-before m p bs i x) k) (omega arith) b (omega arith) in
      record { done = done_bytes m (emit_slots o (state (p + length bs) l f g e s (sets m p bs)) t).out p l f g e s bs t k a b d h.done; at = omega (arith, h.at); tail = h.tail; next = h.next }
  emitted p l zero g e s m (bit x t) big k a b d =
      let len = length-set m p x in
      let new = get_or-set_same m p x 0 (omega arith) in
      let h = emitted (p + 1) p 7 x e s (set m p x) t (omega arith) (omega arith, omega arith, new) (omega arith) b (omega arith) in
      record { done = done_new m (emit_slots o (state (p + 1) p 7 x e s (set m p x)) t).out p l e s x t a b d g h.done; at = omega (arith, h.at); tail = h.tail; next = h.next }
  emitted p l (suc f) g e s m (bit x t) big k a b d =
      let n = g + x * 2 ^ (7 - f) in
      let len = length-set m l n in
      let lp = k.0 in
      let new = get_or-set_same m l n 0 (omega arith) in
      let h = emitted p l f n e s (set m l n) t (omega arith) (last_next m (set m l n) f l g n p new k) a b (omega arith) in
      record { done = done_old m (emit_slots o (state p l f n e s (set m l n)) t).out p l f g e s x t k a b d h.done; at = h.at; tail = h.tail; next = h.next }
  emitted p l f g e s m (reference k t) big ok a b d =
      let kc = pack_bits 0 k in
      let w = width o kc in
      let c = chain o kc in
      let r = s + (w + c + below o kc) in
      let lu = length-le_bytes o s in
      let m1 = sets m p (le_bytes o s) in
      let l1 = length-sets m p (le_bytes o s) in
      let cap : capped c ≡ c = capped_in c (omega arith) in
      let capw : capped (s + w) ≡ s + w = capped_in (s + w) (omega arith) in
      let capn : capped (s + w + capped c) ≡ s + w + capped c = capped_in (s + w + capped c) (omega arith) in
      let deep = emit_slots o (state s 0 0 0 (capped (s + w)) (capped (s + w + capped c)) m1) k in
      let h0 = emitted s 0 0 0 (capped (s + w)) (capped (s + w + capped c)) m1 k (omega arith) tt (omega arith) (omega arith) (omega arith) in
      let z : capped (s + w + capped c) ≡ s + (w + c) = omega arith in
      let hk = subst (λ (n : ℕ). Done m1 deep.out s 0 0 0 (s + w) n k) z (subst (λ (n : ℕ). Done m1 deep.out s 0 0 0 n (capped (s + w + capped c)) k) capw h0.done) in
      let lk = hk.len in
      let hn = h0.next in
      let er : deep.next ≡ r = omega arith in
      let kept : (i : ℕ) → i < p → get_or deep.out i 0 ≡ get_or m i 0 = λ i x. hk.before i (omega arith) tt ∙ sets-before m p (le_bytes o s) i x in
      let hc = emitted (p + length (le_bytes o s)) l f g e deep.next deep.out t (omega arith)
      (last_more m deep.out f l g p (p + length (le_bytes o s)) (omega arith) kept ok) (omega arith) (omega arith) (omega arith) in
      let last = emit_slots o (state (p + length (le_bytes o s)) l f g e deep.next deep.out) t in
      let hd = subst (λ (n : ℕ). Done deep.out last.out (p + o) l f g e n t) er (subst (λ (n : ℕ). Done deep.out last.out (p + n) l f g e deep.next t) lu hc.done) in
      let hx = hc.next in
      let ha = hc.at in
      record { done = done_reference m deep.out last.out p l f g e s k t ok a b d hk hd; at = omega arith; tail = hc.tail; next = omega arith }
  emitted p l f g e s m (in_place k t) big ok a b d =
      let kc = pack_bits 0 k in
      let w = width o kc in
      let c = chain o kc in
      let capw : capped (e + w) ≡ e + w = capped_in (e + w) (omega arith) in
      let deep = emit_slots o (state e 0 0 0 (capped (e + w)) s m) k in
      let hk = emitted e 0 0 0 (capped (e + w)) s m k big tt (omega arith) (omega arith) (omega arith) in
      let lk = hk.done.len in
      let ht : deep.tail ≡ e + w + c = omega (arith, hk.tail) in
      let hn = hk.next in
      let hj = subst (λ (n : ℕ). Done m deep.out e 0 0 0 n s k) capw hk.done in
      let kept : (i : ℕ) → i < p → get_or deep.out i 0 ≡ get_or m i 0 = λ i x. hj.before i (omega arith) tt in
      let hc = emitted p l f g deep.tail deep.next deep.out t (omega arith) (last_more m deep.out f l g p p (omega arith) kept ok) (omega arith) (omega arith) (omega arith) in
      let last = emit_slots o (state p l f g deep.tail deep.next deep.out) t in
      let hd = subst (λ (n : ℕ). Done deep.out last.out p l f g (e + w + c) n t) hn (subst (λ (n : ℕ). Done deep.out last.out p l f g n deep.next t) ht hc.done) in
      let xt = hc.tail in
      let xn = hc.next in
      record { done = done-in_place m deep.out last.out p l f g e s k t ok a b d hj hd; at = hc.at; tail = omega arith; next = omega arith }
  emitted p l f g e s m (part k t) big ok a b d =
      let kc = pack_bits 0 k in
      let deep = emit_slots o (state p 0 0 0 e s m) k in
      let hk = emitted p 0 0 0 e s m k big tt (omega arith) (omega arith) (omega arith) in
      let lk = hk.done.len in
      let ha = hk.at in
      let ht = hk.tail in
      let hn = hk.next in
      let kept : (i : ℕ) → i < p → get_or deep.out i 0 ≡ get_or m i 0 = λ i x. hk.done.before i x tt in
      let hc = emitted deep.at l f g deep.tail deep.next deep.out t (omega arith) (last_more m deep.out f l g p deep.at (omega arith) kept ok) (omega arith) (omega arith) (omega arith) in
      let last = emit_slots o (state deep.at l f g deep.tail deep.next deep.out) t in
      let h1 = subst (λ (n : ℕ). Done deep.out last.out n l f g deep.tail deep.next t) ha hc.done in
      let h2 = subst (λ (n : ℕ). Done deep.out last.out (p + width o kc) l f g n deep.next t) ht h1 in
      let h3 = subst (λ (n : ℕ). Done deep.out last.out (p + width o kc) l f g (e + chain o kc) n t) hn h2 in
      let xa = hc.at in
      let xt = hc.tail in
      let xn = hc.next in
      record { done = done-part m deep.out last.out p l f g e s k t ok a b d hk.done h3; at = omega arith; tail = omega arith; next = omega arith }

  -- what the pass leaves in a buffer as long as the message is the message
  pub emit-layout : (m : List ℕ) (t : Slots) → length m ≡ length (layout o (pack_bits 0 t)) → length m ≤ largest
      → (emit_slots o (state 0 0 0 0 (width o (pack_bits 0 t)) (width o (pack_bits 0 t) + chain o (pack_bits 0 t)) m) t).out ≡ layout o (pack_bits 0 t)
  unfolding layout
  emit-layout m t fits big =
      let c = pack_bits 0 t in
      let s = width o c + chain o c in
      let m' = (emit_slots o (state 0 0 0 0 (width o c) s m) t).out in
      let ll = length-layout o c in
      let h = (emitted 0 0 0 0 (width o c) s m t big tt (omega arith) (omega arith) (omega arith)).done in
      let wb = width_bytes o s c in
      let cb = chain_bytes o s c in
      let bb = below_bytes o s c in
      let lw = length-width_bytes o s c in
      let lc = length-chain_bytes o s c in
      let lb = length-below_bytes o s c in
      let e1 : 0 + length wb ≡ width o c = omega arith in
      let u2 = holds-append m' (width o c) cb bb h.inner (rw lc h.under) in
      let u1 = holds-append m' 0 wb (cb ++ bb) h.own (rw e1 u2) in
      let le = h.len in
      let same : length (layout o c) ≡ length m' = omega arith in
      all m' (layout o c) same (holds-take m' (layout o c) u1)
    where
      all : (m' l : List ℕ) → length l ≡ length m' → take (length l) m' ≡ l → m' ≡ l
      all m' l e q = sym (take_all (length l) m' (omega arith)) ∙ q
