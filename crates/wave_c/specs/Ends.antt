-- How a call ends, and what it tells.
use Rattle.std.specs.Prelude.{ℕ, List, ◌≡◌, ◌≤◌, ◌<◌, ◌++◌, length, drop, Ok, Err}
use Rattle.std.specs.Global.{Vec}
use Rattle.std.specs.declared.result.Result.{Result}
use Rattle.wave_c.specs.Kinds.{argument_number, type_kind_number, kind_number, tape_kind_number}
use Rattle.wave_c.specs.declared.Report.{Report}
use Rattle.wave_c.specs.declared.ended.Failure.{Failure}
use Rattle.wave_c.specs.declared.ended.Failure.TheVariants.{Memory, NotUtf8, NoType, Refused, NoTape, Closed}
use Rattle.wave_c.specs.declared.ended.Ended.{Ended}
use Rattle.wave_c.specs.declared.ended.Ended.TheVariants.{Done, TooSmall, Failed}

-- the bytes stand at the start of the buffer, and behind them it is as it was; or it has fewer, and is as it was
abbrev pub ArePlaced : List ℕ → List ℕ → List ℕ → Ended → Type 0
ArePlaced bytes old new (Done n) = (n ≡ length bytes) × (n ≤ length old) × (new ≡ bytes ++ drop n old)
ArePlaced bytes old new (TooSmall n) = (n ≡ length bytes) × (length old < n) × (new ≡ old)
ArePlaced bytes old new (Failed f) = ⊥

-- so does the answer; where there is none, the buffer is as it was
abbrev pub IsPlaced : Result (Vec ℕ) Failure → List ℕ → List ℕ → Ended → Type 0
IsPlaced (Ok bytes) old new ended = ArePlaced bytes.items old new ended
IsPlaced (Err f) old new ended = (ended ≡ Failed f) × (new ≡ old)

-- ---- what is told

-- the status
abbrev pub status_of : Ended → ℕ
status_of (Done n) = 0
status_of (TooSmall n) = 1
status_of (Failed Memory) = 2
status_of (Failed (NotUtf8 argument at)) = 3
status_of (Failed (NoType e)) = 4
status_of (Failed (Refused e)) = 5
status_of (Failed (NoTape e)) = 6
status_of (Failed Closed) = 7

-- a report of this kind at these bytes
abbrev pub refusal_report : ℕ → ℕ → ℕ → Report
refusal_report kind start end = record { length = 0; start = start; end = end; kind = kind }

-- the report where there is no answer: kind and place of the refusal; which argument is no UTF-8, and from which byte on
abbrev pub report_of_failure : Failure → Report
report_of_failure Memory = refusal_report 0 0 0
report_of_failure (NotUtf8 argument at) = refusal_report (argument_number argument) at at
report_of_failure (NoType e) = refusal_report (type_kind_number e.kind) e.span.start e.span.end
report_of_failure (Refused e) = refusal_report (kind_number e.kind) e.span.start e.span.end
report_of_failure (NoTape e) = refusal_report (tape_kind_number e.kind) e.place e.place
report_of_failure Closed = refusal_report 0 0 0

-- the report: how many bytes the answer has
abbrev pub report_of : Ended → Report
report_of (Done n) = record { length = n; start = 0; end = 0; kind = 0 }
report_of (TooSmall n) = record { length = n; start = 0; end = 0; kind = 0 }
report_of (Failed f) = report_of_failure f

-- ---- a call

-- the answer was placed, or there is none, and status and report tell it
abbrev pub IsTold : Result (Vec ℕ) Failure → List ℕ → List ℕ → ℕ → Report → Type 0
IsTold said old new status report = (ended : Ended) × IsPlaced said old new ended × (status ≡ status_of ended) × (report ≡ report_of ended)

module _ (Says : List ℕ → Type 0) (Fails : Failure → Type 0) (old new : List ℕ) where
  -- bytes that say what was asked for were placed, or didn't fit; or there are none, and the buffer is as it was
  abbrev pub IsEnd : Ended → Type 0
  IsEnd (Done n) = (bytes : List ℕ) × Says bytes × ArePlaced bytes old new (Done n)
  IsEnd (TooSmall n) = (bytes : List ℕ) × Says bytes × ArePlaced bytes old new (TooSmall n)
  IsEnd (Failed f) = Fails f × (new ≡ old)

  -- the call ended so, and its status and its report tell it
  abbrev pub Tells : ℕ → Report → Type 0
  Tells status report = (ended : Ended) × IsEnd ended × (status ≡ status_of ended) × (report ≡ report_of ended)

module _ (Opens Stays : Type 0) (Fails : Failure → Type 0) where
  -- the handle was opened; or it wasn't, and stays as it was
  abbrev pub IsOpenEnd : Ended → Type 0
  IsOpenEnd (Done n) = (n ≡ 0) × Opens
  IsOpenEnd (TooSmall n) = ⊥
  IsOpenEnd (Failed f) = Fails f × Stays

  -- status and report tell which
  abbrev pub TellsOpening : ℕ → Report → Type 0
  TellsOpening status report = (ended : Ended) × IsOpenEnd ended × (status ≡ status_of ended) × (report ≡ report_of ended)
