-- One step of a course: what is written, sent and seen after it, and the run that it makes of a longer one.
use mathlib.Core.Path.{◌≡◌, refl}
use mathlib.Core.Logic.{inl, inr}
use mathlib.Core.List.{List, [], ◌∷◌, ◌++◌}
use Prim.Native.Nat.{ℕ, ◌+◌}
use Rattle.record.specs.Datagram.{framed, faulty, framing_of}
use Rattle.record.specs.declared.keys.Keys.{Keys}
use Rattle.record.specs.declared.keys.Sense.{Sense}
use Rattle.record.specs.declared.reader.Fault.{Fault}
use Rattle.record.specs.declared.reader.Record.{Record}
use Rattle.demands.specs.Course.{Course}
use Rattle.ends.specs.Link.{GenuineFor, Report, Handed, Entry, sends, writes, takes, Linked}
use Rattle.ends.proofs.Courses.{Holds, Single, Warned, Taken, Runs, reporting, warning, taking, losing, after_report, after_warning, after_seen, after_taken, faulty_none, none_other}

module _ (k : Keys) (sense : Sense) (expected : List ℕ) (first width : ℕ) where
  pub record Onward (written : List (List ℕ)) (sent : List Report) (next : ℕ) (seen : List (List ℕ)) (course : Course) (entries rest : List Entry)
      (next' : ℕ) (course' : Course) : Type 0 where
    pub written' : List (List ℕ)
    pub sent' : List Report
    pub seen' : List (List ℕ)
    pub holds : Holds k sense expected first width written' sent' next' seen' course'
    pub linked : Linked k sense written' rest
    pub runs : Runs k sense expected first width written' sent' next' course' rest → Runs k sense expected first width written sent next course (entries ++ rest)

  module _ (written : List (List ℕ)) (sent : List Report) (next : ℕ) (seen : List (List ℕ)) (course : Course)
      (h : Holds k sense expected first width written sent next seen course) (rest : List Entry) where
    pub idle : Linked k sense written rest → Onward written sent next seen course [] rest next course
    idle l = record { written' = written; sent' = sent; seen' = seen; holds = h; linked = l; runs = λ r. r }

    pub reports : (report : Report) → Single k sense expected report → report.number ≡ next → Linked k sense written (sends report ∷ rest)
        → Onward written sent next seen course (sends report ∷ []) rest (next + 1) course
    unfolding Linked
    reports report s e l =
        record {
          written' = report.datagram ∷ written;
          sent' = report ∷ sent;
          seen' = seen;
          holds = after_report k sense expected first width written sent next seen course h report s e;
          linked = l;
          runs = λ r. reporting report s e r;
        }

    pub warns : (d : List ℕ) → ((r : Record) (c : List ℕ) → GenuineFor k sense d r c → Warned k sense expected next d r c)
        → Linked k sense written (writes d ∷ rest) → Onward written sent next seen course (writes d ∷ []) rest (next + 1) course
    unfolding Linked
    warns d w l =
        record {
          written' = d ∷ written;
          sent' = sent;
          seen' = seen;
          holds = after_warning k sense expected first width written sent next seen course h d w;
          linked = l;
          runs = λ r. warning d w r;
        }

    pub takes_in : (d : List ℕ) (rs : List Record) (out : List Handed) (end : Course) → framing_of d ≡ framed rs → Taken k sense expected d course rs out end
        → Linked k sense written (takes d out ∷ rest) → Onward written sent next seen course (takes d out ∷ []) rest next end
    unfolding Linked
    takes_in d rs out end f t l =
        record {
          written' = written;
          sent' = sent;
          seen' = d ∷ seen;
          holds = after_taken k sense expected first width written sent next (d ∷ seen) d (inl refl) t (after_seen k sense expected first width written sent next seen course h d l.0);
          linked = l.1;
          runs = λ r. taking d rs f l.0 t r;
        }

    pub loses : (d : List ℕ) (fault : Fault) (at : ℕ) → framing_of d ≡ faulty fault at → Linked k sense written (takes d [] ∷ rest)
        → Onward written sent next seen course (takes d [] ∷ []) rest next course
    unfolding Linked
    loses d fault at f l =
        record {
          written' = written;
          sent' = sent;
          seen' = d ∷ seen;
          holds = after_seen k sense expected first width written sent next seen course h d
              (inr (none_other k sense expected first width d (faulty_none k sense expected first width d fault at f)));
          linked = l.1;
          runs = λ r. losing d fault at f r;
        }
