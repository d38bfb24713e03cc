-- What the calls of this crate promise, each status with its cause. (This project's own.)
use Rattle.std.specs.Prelude.{ℕ, ◌≡◌, Bool, List, Option, Ok, Err}
use Rattle.vss_names.specs.Faults.{Rose}
use Rattle.io_edge.specs.Streams.{Took, TookPart}
use Rattle.scenario.specs.declared.reason.Reason.{Reason}
use Rattle.scenario.specs.Plan.{Plan}
use Rattle.scenario.specs.Grammar.{reading_of, IsScenario, IsBad}
use Rattle.orders.specs.declared.entry.Entry.{Entry}
use Rattle.orders.specs.declared.order_fault.OrderFault.{OrderFault}
use Rattle.orders.specs.declared.order_fault.OrderFault.TheVariants.{Line, NoReport}
use Rattle.orders.specs.declared.order_fault.OrderFault.TheVariants as fault
use Rattle.orders.specs.declared.status.Status.{Status}
use Rattle.orders.specs.declared.status.Status.TheVariants.{Done, ScenarioRefused, OrderRefused, NoReport as NoReportOf, MayNotCome, WriteFault, DeviceFault, OutOfMemory}
use Rattle.orders.specs.declared.unplayed.Unplayed.{Unplayed}
use Rattle.orders.specs.declared.unplayed.Unplayed.TheVariants.{Halted, Failed}
use Rattle.orders.specs.declared.unplayed.Unplayed.TheVariants as missing
use Rattle.orders.specs.declared.why.Why.{Why}
use Rattle.orders.specs.Order.{order_in}
use Rattle.orders.specs.Runs.{IsOrdered, IsOfSeed, IsHalted}

-- the sink and the maker before the call and after it
pub record Around : Type 0 where
  pub taken_first : Option (List ℕ)
  pub taken_last : Option (List ℕ)
  pub writes_first : ℕ
  pub writes_last : ℕ
  pub count_first : ℕ
  pub count_last : ℕ

-- nothing was written
pub record IsUnwritten (a : Around) : Type 0 where
  pub taken : a.taken_last ≡ a.taken_first
  pub writes : a.writes_last ≡ a.writes_first

-- a text of which this holds was written whole
pub record IsWritten (P : List ℕ → Type 0) (a : Around) : Type 0 where
  pub report : List ℕ
  pub is_report : P report
  pub written : Took a.taken_first report a.taken_last
  pub writes : a.writes_last ≡ a.writes_first

-- a first part of it
pub record IsWrittenInPart (P : List ℕ → Type 0) (a : Around) : Type 0 where
  pub report : List ℕ
  pub is_report : P report
  pub part : TookPart a.taken_first report a.taken_last
  pub rose : Rose a.writes_first a.writes_last

pub record IsDeviceFault (a : Around) : Type 0 where
  pub rose : Rose a.count_first a.count_last
  pub unwritten : IsUnwritten a

-- the text is no scenario: this is its first bad line
pub record IsRefused (text : List ℕ) (line : ℕ) (reason : Reason) (a : Around) : Type 0 where
  pub is_bad : reading_of text ≡ IsBad line reason
  pub unwritten : IsUnwritten a

-- ## `order`

-- the two texts are this scenario and an order of it
pub record IsOrderOf (text order : List ℕ) (s : Plan) (entries : List Entry) : Type 0 where
  pub is_scenario : reading_of text ≡ IsScenario s
  pub is_order : order_in s order ≡ Ok entries

-- the report of a legal and complete trail of the scenario that begins with this order
pub record IsReportOfOrder {D : Type 0} (count : D → ℕ) (tells : Bool) (text order report : List ℕ) : Type 0 where
  pub plan : Plan
  pub entries : List Entry
  pub given : IsOrderOf text order plan entries
  pub ordered : IsOrdered count tells plan entries report

-- the second text is no order of the scenario, for this reason
pub record IsOrderRefused (text order : List ℕ) (fault : OrderFault) (a : Around) : Type 0 where
  pub plan : Plan
  pub is_scenario : reading_of text ≡ IsScenario plan
  pub is_bad : order_in plan order ≡ Err fault
  pub unwritten : IsUnwritten a

-- this move of the order may not come
pub record IsHaltedCall {D : Type 0} (count : D → ℕ) (text order : List ℕ) (entry : Entry) (why : Why) (a : Around) : Type 0 where
  pub plan : Plan
  pub entries : List Entry
  pub given : IsOrderOf text order plan entries
  pub halted : IsHalted count plan entries entry why
  pub unwritten : IsUnwritten a

-- how a call ends without an order, or without its report
abbrev pub status_of_fault : OrderFault → Status
status_of_fault (Line line reason) = OrderRefused line reason
status_of_fault (NoReport line) = NoReportOf line
status_of_fault fault.OutOfMemory = OutOfMemory

abbrev pub status_of_cause : Unplayed → Status
status_of_cause (Halted entry why) = MayNotCome entry why
status_of_cause Failed = DeviceFault
status_of_cause missing.OutOfMemory = OutOfMemory

abbrev pub IsOrderCall : {D : Type 0} → (D → ℕ) → Bool → List ℕ → List ℕ → Around → Status → Type 0
IsOrderCall count tells text order a Done = IsWritten (IsReportOfOrder count tells text order) a
IsOrderCall count tells text order a (ScenarioRefused line reason) = IsRefused text line reason a
IsOrderCall count tells text order a (OrderRefused line reason) = IsOrderRefused text order (Line line reason) a
IsOrderCall count tells text order a (NoReportOf line) = IsOrderRefused text order (NoReport line) a
IsOrderCall count tells text order a (MayNotCome entry why) = IsHaltedCall count text order entry why a
IsOrderCall count tells text order a WriteFault = IsWrittenInPart (IsReportOfOrder count tells text order) a
IsOrderCall count tells text order a DeviceFault = IsDeviceFault a
IsOrderCall count tells text order a OutOfMemory = IsUnwritten a

-- ## `seed`

-- the report of the trail that the number draws
pub record IsReportOfSeed {D : Type 0} (count : D → ℕ) (tells : Bool) (text : List ℕ) (number : ℕ) (report : List ℕ) : Type 0 where
  pub plan : Plan
  pub is_scenario : reading_of text ≡ IsScenario plan
  pub of_seed : IsOfSeed count tells plan number report

abbrev pub IsSeedCall : {D : Type 0} → (D → ℕ) → Bool → List ℕ → ℕ → Around → Status → Type 0
IsSeedCall count tells text number a Done = IsWritten (IsReportOfSeed count tells text number) a
IsSeedCall count tells text number a (ScenarioRefused line reason) = IsRefused text line reason a
IsSeedCall count tells text number a (OrderRefused line reason) = ⊥
IsSeedCall count tells text number a (NoReportOf line) = ⊥
IsSeedCall count tells text number a (MayNotCome entry why) = ⊥
IsSeedCall count tells text number a WriteFault = IsWrittenInPart (IsReportOfSeed count tells text number) a
IsSeedCall count tells text number a DeviceFault = IsDeviceFault a
IsSeedCall count tells text number a OutOfMemory = IsUnwritten a
