-- What a journal just laid out holds and means.
use Rattle.std.proofs.Common.{◌≡◌, ℕ, zero, suc, true, ◌+◌, ◌*◌, ◌<◌, ◌≤◌, List, [], ◌∷◌, ◌++◌, length, get_or, drop, Some, None, Vec, vec_items, sym, refl, ap, subst, ◌∙◌, ⊎_elim, arith, length-set, get_or-set_same, get_or-set_other}
use Rattle.std.proofs.lemmas.List.{with_items_is, length-replicate, append_assoc, take_at, drop_at, drop-drop}
use Rattle.std.proofs.lemmas.Nat.{mul-le}
use Rattle.std.specs.Vec.{with_items}
use Rattle.std.specs.declared.alloc.Global.{Global}
use Rattle.std.proofs.lemmas.Bool.{cases_eq, cases_lt, lt-ltb, le-ltb, cond-true, cond-false}
use Rattle.store.specs.declared.slots.Slots.{Slots}
use Rattle.store.specs.Meaning.{opening}
use Rattle.store.specs.Laying.{sizes_fit, widest_sizes, opening_chains, laid_out_meaning}
use Rattle.store.specs.Slots.{AreLaidOut, CountsChains, writing_by}
use Rattle.store.proofs.SlotMeans.{laid_out_means}
use Rattle.record.specs.declared.record.Record.{Record}
use Rattle.record.specs.Numbers.{record_size, journal_reach}
use Rattle.record.specs.Bytes.{record_bytes}
use Rattle.record.specs.Journals.{chain_in, last_place, records, records_bytes, entry_record, opening_records, bytes_with, Journaled, laid_out}
use Rattle.record.proofs.Kept as kept
use Rattle.record.proofs.Chains.{chain_openings, chain_openings_past, last_openings, length_openings}
use Rattle.record.proofs.Written.{records_more, length_written, length_record_bytes, length_records_bytes, bytes_push}
use Rattle.journal.specs.LaidOut.{bytes_laid_out, lasts_laid_out}

pub opened_length : (bytes : List ℕ) (n : ℕ) → record_size * n ≤ length bytes → length (bytes_laid_out bytes n) ≡ length bytes
opened_length bytes zero room = refl
opened_length bytes (suc n) room =
    let r = entry_record n opening None in
    let before = opened_length bytes n (omega arith) in
    length_written (bytes_laid_out bytes n) (record_size * n) (record_bytes r) (omega (arith, length_record_bytes r)) ∙ before

pub opened_records : (bytes : List ℕ) (n : ℕ) → n ≤ 64 → record_size * n ≤ length bytes → records (bytes_laid_out bytes n) n ≡ opening_records n
opened_records bytes zero few room = refl
opened_records bytes (suc n) few room =
    let r = entry_record n opening None in
    records_more (bytes_laid_out bytes n) n r (kept.opening_fits n (omega arith)) (omega (arith, opened_length bytes n (omega arith)))
    ∙ ap (λ rs. rs ++ r ∷ []) (opened_records bytes n (omega arith) (omega arith))

length_openings_bytes : (n : ℕ) → length (records_bytes (opening_records n)) ≡ record_size * n
length_openings_bytes n = omega (arith, length_records_bytes (opening_records n), length_openings n)

-- the bytes are the opening records, and then what was there
opened_flat : (bytes : List ℕ) (n : ℕ) → bytes_laid_out bytes n ≡ records_bytes (opening_records n) ++ drop (record_size * n) bytes
opened_flat bytes zero = refl
opened_flat bytes (suc n) =
    let r = entry_record n opening None in
    let front = records_bytes (opening_records n) in
    let rest = drop (record_size * n) bytes in
    let long = length_openings_bytes n in
    let behind : drop (record_size * n + length (record_bytes r)) (front ++ rest) ≡ drop (record_size * suc n) bytes =
    sym (drop-drop (length (record_bytes r)) (record_size * n) (front ++ rest))
    ∙ ap (drop (length (record_bytes r))) (drop_at front rest (record_size * n) long)
    ∙ drop-drop (length (record_bytes r)) (record_size * n) bytes
    ∙ ap (λ k. drop k bytes) (omega (arith, length_record_bytes r)) in
    ap (λ bs. bytes_with bs (record_size * n) (record_bytes r)) (opened_flat bytes n)
    ∙ (λ i. take_at front rest (record_size * n) long i ++ (record_bytes r ++ behind i))
    ∙ sym (append_assoc front (record_bytes r) (drop (record_size * suc n) bytes))
    ∙ ap (λ bs. bs ++ drop (record_size * suc n) bytes) (sym (bytes_push (opening_records n) r))

opened_is : (bytes : List ℕ) (n : ℕ) → bytes_laid_out bytes n ≡ bytes_with bytes 0 (records_bytes (opening_records n))
opened_is bytes n = opened_flat bytes n ∙ ap (λ k. records_bytes (opening_records n) ++ drop k bytes) (omega (arith, length_openings_bytes n))

pub length_opened_lasts : (n : ℕ) → length (lasts_laid_out n) ≡ 64
length_opened_lasts zero = length-replicate {A = ℕ} 64 0
length_opened_lasts (suc n) = length-set (lasts_laid_out n) n _ ∙ length_opened_lasts n

opened_last : (n e : ℕ) → e < n → n ≤ 64 → get_or (lasts_laid_out n) e 0 ≡ record_size * e
opened_last zero e below few = absurd (omega arith)
opened_last (suc n) e below few =
    ⊎_elim
    (λ (is : e ≡ n).
    ap (λ i. get_or (lasts_laid_out (suc n)) i 0) is
    ∙ get_or-set_same (lasts_laid_out n) n _ 0 (omega (arith, length_opened_lasts n))
    ∙ ap (λ k. record_size * k) (sym is))
    (λ apart. get_or-set_other (lasts_laid_out n) n e _ 0 apart ∙ opened_last n e (omega (arith, apart)) (omega arith))
    (cases_eq e n)

-- where there is room for all chains there is room for one record of each entry
pub each_room : (m d n : ℕ) → sizes_fit widest_sizes m d ≡ true → record_size * (m * d) ≤ n → record_size * m ≤ n
each_room m d n fit long = omega (arith, mul-le m 1 m d (omega arith) (omega (arith, kept.deep m d fit)))

-- a journal just laid out over some bytes: ws is what is written over them
module _ (v : Vec ℕ Global) (ws lasts : List ℕ) (slots : Slots) (m d : ℕ) (written_is : ws ≡ bytes_laid_out v.items m) (lasts_are : lasts ≡ lasts_laid_out m) (laid : AreLaidOut journal_reach m d slots) (fit : sizes_fit widest_sizes m d ≡ true) (long : record_size * (m * d) ≤ length v.items) where
  abbrev now : List ℕ
  now = vec_items (with_items v ws)

  abbrev held : List Record
  held = records now m

  room_each : record_size * m ≤ length v.items
  room_each = each_room m d (length v.items) fit long

  is : now ≡ bytes_laid_out v.items m
  is = with_items_is v ws (omega (arith, ap length written_is, opened_length v.items m room_each, v.ok.0)) ∙ written_is

  pub laid_bytes : now ≡ bytes_with v.items 0 (records_bytes (opening_records m))
  laid_bytes = is ∙ opened_is v.items m

  few : m ≤ 64
  few = kept.few m d fit

  pub laid_room : record_size * (slots.entries * slots.depth) ≤ length now
  laid_room =
      let same : slots.entries * slots.depth ≡ m * d = λ i. laid.entries_are i * laid.depth_is i in
      omega (arith, same, ap length is, opened_length v.items m room_each)

  pub laid_blank : slots.entries ≡ 0 → m ≡ 0
  laid_blank none = omega (arith, none, laid.entries_are)

  pub laid_records : held ≡ opening_records m
  laid_records = ap (λ bs. records bs m) is ∙ opened_records v.items m few room_each

  pub laid_kept : ∥ Journaled slots.entries slots.depth held ∥₁
  laid_kept =
      let j : Journaled m d (opening_records m) = laid_out fit in ∣ subst (λ (n : ℕ). Journaled n slots.depth held) (sym laid.entries_are)
      (subst (λ (n : ℕ). Journaled m n held) (sym laid.depth_is) (subst (Journaled m d) (sym laid_records) j)) ∣₁

  laid_chain : (e : ℕ) → chain_in held e ≡ opening_chains m e
  laid_chain e =
      ap (λ rs. chain_in rs e) laid_records
      ∙ ⊎_elim
      (λ inside. chain_openings m e inside ∙ sym (cond-true _ _ _ (lt-ltb e m inside)))
      (λ past. chain_openings_past m e past ∙ sym (cond-false _ _ _ (le-ltb e m past)))
      (cases_lt e m)

  pub laid_counts : CountsChains slots (chain_in held)
  laid_counts e =
      ap length (laid_chain e)
      ∙ ⊎_elim
      (λ inside.
      let yes = lt-ltb e m inside in
      ap length (cond-true _ _ _ yes) ∙ sym (laid.lens e ∙ cond-true _ _ _ yes))
      (λ past.
      let no = le-ltb e m past in
      ap length (cond-false _ _ _ no) ∙ sym (laid.lens e ∙ cond-false _ _ _ no))
      (cases_lt e m)

  pub laid_found : (e : ℕ) → e < slots.entries → last_place held e ≡ Some (get_or lasts e 0)
  laid_found e inside =
      let there : e < m = omega (arith, inside, laid.entries_are) in
      ap (λ rs. last_place rs e) laid_records ∙ last_openings m e there
      ∙ ap (λ n. Some n) (sym (ap (λ ns. get_or ns e 0) lasts_are ∙ opened_last m e there few))

  pub laid_means : writing_by slots (chain_in held) ≡ laid_out_meaning journal_reach m d
  laid_means = laid_out_means journal_reach m d slots (chain_in held) laid laid_chain
