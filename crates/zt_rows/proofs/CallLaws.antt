-- Each call leaves a consistent state consistent: its direct change is sound, and what is sound is consistent
-- once it is collected and settled.
use Rattle.std.proofs.Common.{◌≡◌, ℕ, true, refl}
use Rattle.zt_bits.specs.declared.kinds.Kind.TheVariants as kind
use Rattle.zt_rows.specs.declared.calls.Call.{Call}
use Rattle.zt_rows.specs.declared.calls.Call.TheVariants as call
use Rattle.zt_rows.specs.State.{State}
use Rattle.zt_rows.specs.Reads.{has_live_process}
use Rattle.zt_rows.specs.Step.{IsCall, direct, step}
use Rattle.zt_rows.specs.Consistent.{IsSound, IsConsistent}
use Rattle.zt_rows.proofs.StepLaws.{consistent-completed, sound-create_call, sound-create_pair, sound-handle_close, sound-handle_duplicate, sound-handle_replace, sound-object_signal, sound-object_signal_peer}
use Rattle.zt_rows.proofs.SentLaws.{sound-channel_write}
use Rattle.zt_rows.proofs.ReceivedLaws.{sound-channel_read}
use Rattle.zt_rows.proofs.PortSteps.{sound-object_wait_async, sound-port_queue, sound-port_wait, sound-port_cancel}
use Rattle.zt_rows.proofs.JobSteps.{sound-job_create, sound-spawn, sound-job_set_critical, sound-task_kill, sound-process_exit}

pub sound-direct : (S : State) (p : ℕ) (c : Call) → IsSound S → has_live_process S p ≡ true → IsCall c → IsSound (direct S p c).0
unfolding direct
sound-direct S p call.EventCreate sound live is = sound-create_call S p kind.Event sound live refl
sound-direct S p call.EventPairCreate sound live is = sound-create_pair S p kind.EventPair sound live refl
sound-direct S p (call.HandleClose h) sound live is = sound-handle_close S p h sound
sound-direct S p (call.HandleDuplicate h rights) sound live is = sound-handle_duplicate S p h rights sound live
sound-direct S p (call.HandleReplace h rights) sound live is = sound-handle_replace S p h rights sound live
sound-direct S p (call.ObjectSignal h clear set) sound live is = sound-object_signal S p h clear.0 set.0 sound
sound-direct S p (call.ObjectSignalPeer h clear set) sound live is = sound-object_signal_peer S p h clear.0 set.0 sound
sound-direct S p call.ChannelCreate sound live is = sound-create_pair S p kind.Channel sound live refl
sound-direct S p (call.ChannelWrite h parcel) sound live is = sound-channel_write S p h parcel.bytes parcel.handles sound is
sound-direct S p (call.ChannelRead h bytes handles discard) sound live is = sound-channel_read S p h bytes handles discard sound live
sound-direct S p call.PortCreate sound live is = sound-create_call S p kind.Port sound live refl
sound-direct S p (call.ObjectWaitAsync h port packet_key signals edge) sound live is = sound-object_wait_async S p h port packet_key signals.0 edge sound
sound-direct S p (call.PortQueue port packet_key bytes) sound live is = sound-port_queue S p port packet_key bytes sound
sound-direct S p (call.PortWait port) sound live is = sound-port_wait S p port sound
sound-direct S p (call.PortCancel port source packet_key) sound live is = sound-port_cancel S p port source packet_key sound
sound-direct S p (call.JobCreate job) sound live is = sound-job_create S p job sound live
sound-direct S p (call.Spawn job argument) sound live is = sound-spawn S p job argument sound live
sound-direct S p (call.JobSetCritical job process) sound live is = sound-job_set_critical S p job process sound
sound-direct S p (call.TaskKill h) sound live is = sound-task_kill S p h sound
sound-direct S p (call.ProcessExit code) sound live is = sound-process_exit S p code sound live

-- a call of a live process leaves a consistent state consistent
pub step-consistent : (S : State) (p : ℕ) (c : Call) → IsConsistent S → has_live_process S p ≡ true → IsCall c → IsConsistent (step S p c).0
unfolding step
step-consistent S p c consistent live is = consistent-completed S (direct S p c).0 (sound-direct S p c consistent.sound live is)
