-- The version of a record in the chain of its entry.
use Rattle.std.proofs.Common.{◌≡◌, ℕ, zero, suc, ◌+◌, ◌*◌, ◌<◌, List, [], ◌∷◌, ◌++◌, length, Some, sym, refl, ap, ◌∙◌, ⊎_elim, arith, add-one}
use Rattle.std.specs.List.{slice_get}
use Rattle.std.proofs.lemmas.List.{length_push}
use Rattle.std.proofs.lemmas.Bool.{cases_eq, cond-true, le-leb}
use Rattle.store.specs.declared.version.Version.{Version}
use Rattle.record.specs.declared.record.Record.{Record}
use Rattle.record.specs.Numbers.{record_size}
use Rattle.record.specs.Bytes.{record_read}
use Rattle.record.specs.Journals.{chain_in, records, record_at}
use Rattle.record.proofs.Chains.{chain_push_same, chain_push_other}
use Rattle.journal.specs.declared.JournalStore.{JournalStore}
use Rattle.journal.specs.Stores.{bytes_of}
use Rattle.journal.proofs.Writes.{count_room}

get_push : (vs : List Version) (v : Version) → slice_get (vs ++ v ∷ []) (length vs) ≡ Some v
get_push [] v = refl
get_push (w ∷ vs) v = get_push vs v

get_longer : (vs : List Version) (v w : Version) (i : ℕ) → slice_get vs i ≡ Some w → slice_get (vs ++ v ∷ []) i ≡ Some w
get_longer [] v w i is = absurd (cc)
get_longer (x ∷ vs) v w zero is = is
get_longer (x ∷ vs) v w (suc i) is = get_longer vs v w i is

-- a record of the entry stands in the chain behind the versions of the records before it
pub version_of : (bytes : List ℕ) (n k e : ℕ) → k < n → (record_at bytes k).entry ≡ e → slice_get (chain_in (records bytes n) e) (length (chain_in (records bytes k) e)) ≡ Some (record_at bytes k).version
version_of bytes zero k e below is = absurd (omega arith)
version_of bytes (suc n) k e below is =
    let r = record_at bytes n in
    ⊎_elim
    (λ (last : k ≡ n).
    let same : r.entry ≡ e = ap (λ i. (record_at bytes i).entry) (sym last) ∙ is in
    ap (λ i. slice_get (chain_in (records bytes (suc n)) e) (length (chain_in (records bytes i) e))) last
    ∙ ap (λ vs. slice_get vs (length (chain_in (records bytes n) e))) (chain_push_same (records bytes n) r e same)
    ∙ get_push (chain_in (records bytes n) e) r.version
    ∙ ap (λ i. Some (record_at bytes i).version) (sym last))
    (λ apart.
    let before = version_of bytes n k e (omega (arith, apart)) is in
    ⊎_elim
    (λ (same : r.entry ≡ e).
    ap (λ vs. slice_get vs (length (chain_in (records bytes k) e))) (chain_push_same (records bytes n) r e same)
    ∙ get_longer (chain_in (records bytes n) e) r.version (record_at bytes k).version (length (chain_in (records bytes k) e)) before)
    (λ other. ap (λ vs. slice_get vs (length (chain_in (records bytes k) e))) (chain_push_other (records bytes n) r e other) ∙ before)
    (cases_eq r.entry e))
    (cases_eq k n)

-- each record of a store can be read
pub read_is : (s : JournalStore) (k : ℕ) → k < s.count → record_read (bytes_of s) (record_size * k) ≡ Some (record_at (bytes_of s) k)
read_is s k below = cond-true _ _ _ (le-leb (record_size * k + record_size) (length (bytes_of s)) (omega (arith, count_room s)))

-- what the walk over the records knows, with its count of those of the entry before record k
module _ (s : JournalStore) (k e before : ℕ) (r : Record) (so_far : before ≡ length (chain_in (records (bytes_of s) k) e)) (is : r ≡ record_at (bytes_of s) k) where
  pub counts_it : r.entry ≡ e → before + 1 ≡ length (chain_in (records (bytes_of s) (k + 1)) e)
  counts_it same =
      let q = record_at (bytes_of s) k in
      omega (arith, so_far, ap (λ n. length (chain_in (records (bytes_of s) n) e)) (add-one k), ap length (chain_push_same (records (bytes_of s) k) q e (ap (λ x. x.entry) (sym is) ∙ same)), length_push (chain_in (records (bytes_of s) k) e) q.version)

  pub passes_it : (r.entry ≡ e → ⊥) → before ≡ length (chain_in (records (bytes_of s) (k + 1)) e)
  passes_it other =
      let q = record_at (bytes_of s) k in
      omega (arith, so_far, ap (λ n. length (chain_in (records (bytes_of s) n) e)) (add-one k), ap length (chain_push_other (records (bytes_of s) k) q e (λ same. other (ap (λ x. x.entry) is ∙ same))))

  pub found_it : k < s.count → r.entry ≡ e → Some r.version ≡ slice_get (chain_in (records (bytes_of s) s.count) e) before
  found_it below same =
      ap (λ x. Some x.version) is
      ∙ sym (version_of (bytes_of s) s.count k e below (ap (λ x. x.entry) (sym is) ∙ same))
      ∙ ap (slice_get (chain_in (records (bytes_of s) s.count) e)) (sym so_far)
