use Rattle.s390x_format.proofs.Direct.{ri_a, ri_b, ri_c, ril_a, ril_b, ril_c, rr, rre, rrf_ab, rrf_cde, rx, rxy, vrr_c, vrx, rre_zeros, vrr_c_zeros, vrx_zeros, no_zeros_ri_a, no_zeros_ri_b, no_zeros_ri_c, no_zeros_ril_a, no_zeros_ril_b, no_zeros_ril_c, no_zeros_rr, no_zeros_rrf_ab, no_zeros_rrf_cde, no_zeros_rx, no_zeros_rxy}
use Rattle.s390x_format.proofs.frequent.unpack_as.Goals as goal

pub returns-in-RiA-clause-values : goal.returns-in-RiA-clause-values
returns-in-RiA-clause-values c k lt = rw c.in-RiA.is (ri_a c.args.n k lt)

pub returns-in-RiB-clause-values : goal.returns-in-RiB-clause-values
returns-in-RiB-clause-values c k lt = rw c.in-RiB.is (ri_b c.args.n k lt)

pub returns-in-RiC-clause-values : goal.returns-in-RiC-clause-values
returns-in-RiC-clause-values c k lt = rw c.in-RiC.is (ri_c c.args.n k lt)

pub returns-in-RilA-clause-values : goal.returns-in-RilA-clause-values
returns-in-RilA-clause-values c k lt = rw c.in-RilA.is (ril_a c.args.n k lt)

pub returns-in-RilB-clause-values : goal.returns-in-RilB-clause-values
returns-in-RilB-clause-values c k lt = rw c.in-RilB.is (ril_b c.args.n k lt)

pub returns-in-RilC-clause-values : goal.returns-in-RilC-clause-values
returns-in-RilC-clause-values c k lt = rw c.in-RilC.is (ril_c c.args.n k lt)

pub returns-in-Rr-clause-values : goal.returns-in-Rr-clause-values
returns-in-Rr-clause-values c k lt = rw c.in-Rr.is (rr c.args.n k lt)

pub returns-in-Rre-clause-values : goal.returns-in-Rre-clause-values
returns-in-Rre-clause-values c k lt = rw c.in-Rre.is (rre c.args.n k lt)

pub returns-in-RrfAb-clause-values : goal.returns-in-RrfAb-clause-values
returns-in-RrfAb-clause-values c k lt = rw c.in-RrfAb.is (rrf_ab c.args.n k lt)

pub returns-in-RrfCde-clause-values : goal.returns-in-RrfCde-clause-values
returns-in-RrfCde-clause-values c k lt = rw c.in-RrfCde.is (rrf_cde c.args.n k lt)

pub returns-in-Rx-clause-values : goal.returns-in-Rx-clause-values
returns-in-Rx-clause-values c k lt = rw c.in-Rx.is (rx c.args.n k lt)

pub returns-in-Rxy-clause-values : goal.returns-in-Rxy-clause-values
returns-in-Rxy-clause-values c k lt = rw c.in-Rxy.is (rxy c.args.n k lt)

pub returns-in-RiA-clause-zeros : goal.returns-in-RiA-clause-zeros
returns-in-RiA-clause-zeros c = rw c.in-RiA.is (no_zeros_ri_a c.args.n)

pub returns-in-RiB-clause-zeros : goal.returns-in-RiB-clause-zeros
returns-in-RiB-clause-zeros c = rw c.in-RiB.is (no_zeros_ri_b c.args.n)

pub returns-in-RiC-clause-zeros : goal.returns-in-RiC-clause-zeros
returns-in-RiC-clause-zeros c = rw c.in-RiC.is (no_zeros_ri_c c.args.n)

pub returns-in-RilA-clause-zeros : goal.returns-in-RilA-clause-zeros
returns-in-RilA-clause-zeros c = rw c.in-RilA.is (no_zeros_ril_a c.args.n)

pub returns-in-RilB-clause-zeros : goal.returns-in-RilB-clause-zeros
returns-in-RilB-clause-zeros c = rw c.in-RilB.is (no_zeros_ril_b c.args.n)

pub returns-in-RilC-clause-zeros : goal.returns-in-RilC-clause-zeros
returns-in-RilC-clause-zeros c = rw c.in-RilC.is (no_zeros_ril_c c.args.n)

pub returns-in-Rr-clause-zeros : goal.returns-in-Rr-clause-zeros
returns-in-Rr-clause-zeros c = rw c.in-Rr.is (no_zeros_rr c.args.n)

pub returns-in-Rre-clause-zeros : goal.returns-in-Rre-clause-zeros
returns-in-Rre-clause-zeros c = rw c.in-Rre.is (rre_zeros c.args.n)

pub returns-in-RrfAb-clause-zeros : goal.returns-in-RrfAb-clause-zeros
returns-in-RrfAb-clause-zeros c = rw c.in-RrfAb.is (no_zeros_rrf_ab c.args.n)

pub returns-in-RrfCde-clause-zeros : goal.returns-in-RrfCde-clause-zeros
returns-in-RrfCde-clause-zeros c = rw c.in-RrfCde.is (no_zeros_rrf_cde c.args.n)

pub returns-in-Rx-clause-zeros : goal.returns-in-Rx-clause-zeros
returns-in-Rx-clause-zeros c = rw c.in-Rx.is (no_zeros_rx c.args.n)

pub returns-in-Rxy-clause-zeros : goal.returns-in-Rxy-clause-zeros
returns-in-Rxy-clause-zeros c = rw c.in-Rxy.is (no_zeros_rxy c.args.n)

pub returns-in-VrrC-clause-values : goal.returns-in-VrrC-clause-values
returns-in-VrrC-clause-values c k lt = rw c.in-VrrC.is (vrr_c c.args.n k lt)

pub returns-in-Vrx-clause-values : goal.returns-in-Vrx-clause-values
returns-in-Vrx-clause-values c k lt = rw c.in-Vrx.is (vrx c.args.n k lt)

pub returns-in-VrrC-clause-zeros : goal.returns-in-VrrC-clause-zeros
returns-in-VrrC-clause-zeros c = rw c.in-VrrC.is (vrr_c_zeros c.args.n)

pub returns-in-Vrx-clause-zeros : goal.returns-in-Vrx-clause-zeros
returns-in-Vrx-clause-zeros c = rw c.in-Vrx.is (vrx_zeros c.args.n)
